-- `find`: after i turns, i bytes are passed, none of them b.
use Rattle.line_reading.proofs.Splits.{Passed}
use Rattle.line_reading.proofs.reading.find.Given as goal

abbrev pub invariant-loop-i : goal.invariant-loop-i
invariant-loop-i l = Passed l.b l.s l.i
