-- `normal_cells::token_end` meets its contract: the loop counts the tags 2 behind the first codepoint.
use Rattle.normal_cells.proofs.Reading.{Ending}
use Rattle.normal_cells.proofs.token_end.Given as goal

abbrev pub invariant-loop-i : goal.invariant-loop-i
invariant-loop-i l = Ending l.w l.from l.n l.i
