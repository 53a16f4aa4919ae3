-- `normal_cells::move_down` meets its contract: the codepoints that move stand where they stood until it is their turn.
use lib.ListN.{take, drop}
use Rattle.laying.proofs.Putting.{Putting}
use Rattle.normal_cells.proofs.move_down.Given as goal

abbrev pub invariant-loop-i : goal.invariant-loop-i
invariant-loop-i l = Putting l.initial.w l.at (take l.n (drop l.from l.initial.w)) l.first l.later l.w l.tag l.i
