-- `table::lookup::skip` meets its contract: c lies in none of those passed.
use Prim.Native.Nat.{◌*◌}
use Rattle.table.specs.Part.{Passed}
use Rattle.table.proofs.lookup.skip.Given as goal

abbrev pub invariant-loop-i : goal.invariant-loop-i
invariant-loop-i g l = Passed g.row.STEP l.c l.part (l.i * l.four)
