-- `named_again`: the slots behind are searched for the name of the slot.
use native.Mathlib.Omega.{arith}
use mathlib.Core.Path.{◌∙◌}
use Rattle.book_slots.specs.Book.{slot_of}
use Rattle.book_damage.proofs.Damages.{not_too_long, name_short, first-free, again_is}
use Rattle.book_damage.proofs.named_again.Goals as goal

pub returns-then-n-eq0 : goal.returns-then-n-eq0
returns-then-n-eq0 c = first-free c.args.slot.now c.args.behind.now c.if-n-eq0.true

pub slice_bounds-find_slot-end : goal.slice_bounds-find_slot-end
slice_bounds-find_slot-end c = omega (arith, not_too_long (slot_of c.args.slot.now) c.requires)

pub find_slot-requires : goal.find_slot-requires
find_slot-requires c =
    let short = not_too_long (slot_of c.args.slot.now) c.requires in
    name_short c.args.slot.now c.told-slot short

pub returns : goal.returns
returns c = c.is_some.ensures ∙ again_is c.args.slot.now c.args.behind.now (not_too_long (slot_of c.args.slot.now) c.requires) c.if-n-eq0.false _ c.find_slot.ensures
