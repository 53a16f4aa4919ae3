-- `list_slots`: after each turn the entries of the slots before the next stand in the list.
use lib.ListN.{length}
use Rattle.refiling.specs.Labels.{Lasting}
use Rattle.moved.proofs.MovedLaws.{Walked}
use Rattle.moved.proofs.list_slots.Given as goal

abbrev pub invariant-loop-i : goal.invariant-loop-i
invariant-loop-i l = Walked l.words (length l.initial.w) l.slots l.initial.list l.list l.len l.i × Lasting l.words l.initial.w l.w l.unpaired l.memo
