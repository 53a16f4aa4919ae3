-- `find_slot` meets its contract, by the laws of a search. The measure is what is left of the tries.
use Rattle.quick_filters.specs.Slot.{hash_of, Asked}
use mathlib.Core.Path.{◌≡◌}
use Rattle.quick_filters.proofs.slots.find_slot.Given as goal

abbrev pub invariant-loop-j : goal.invariant-loop-j
invariant-loop-j l = Asked l.part l.slots l.x l.y l.j × (l.start ≡ hash_of l.x l.y)
