-- `note_items` meets its contract, item by item.
use lib.ListN.{drop}
use Rattle.bit_sets.proofs.PutLaws.{Putting}
use Rattle.confused_set.specs.Filter.{placed}
use Rattle.confused_set.proofs.note_items.Given as goal

abbrev pub invariant-loop-c : goal.invariant-loop-c
invariant-loop-c l = Putting (placed l.items) (placed (drop l.c-index l.items)) l.initial.set l.set
