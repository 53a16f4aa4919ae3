-- `spelling::low_line` meets its contract, by the laws of a walk over the low lines at the start.
use Rattle.table.proofs.Lookups.{Walk}
use Rattle.spelling.specs.Spelling.{low_line}
use Rattle.spelling.proofs.low_line.Given as goal

abbrev pub invariant-loop-i : goal.invariant-loop-i
invariant-loop-i l = Walk low_line l.s l.i
