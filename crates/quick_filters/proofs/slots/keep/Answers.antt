-- `keep` meets its contract, by the laws of a store.
use Rattle.quick_filters.proofs.SlotLaws.{stored_new}
use Rattle.quick_filters.proofs.slots.keep.Goals as goal

pub returns : goal.returns
returns c =
    let r = c.in-Some.ensures in
    stored_new _ _ _ _ _ c.requires.slots_in c.if-n-ne2.false (c.requires.s_in_bounds.0 c.if-n-ne2.false) r.few c.if-slots-at-ne0.false r.came
