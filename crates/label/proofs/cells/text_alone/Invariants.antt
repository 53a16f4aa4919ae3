-- `label::cells::text_alone` meets its contract, by the laws of a walk over the cells.
use Rattle.label.proofs.CellLaws.{AloneWalk}
use Rattle.label.proofs.cells.text_alone.Given as goal

abbrev pub invariant-loop-i : goal.invariant-loop-i
invariant-loop-i l = AloneWalk l.c-items l.initial.tags l.tags l.m l.i
