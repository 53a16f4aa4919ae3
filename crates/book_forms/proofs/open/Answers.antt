-- `open`: 40, 41, or the slots.
use Rattle.book_forms.proofs.OpenLaws.{other_size, is_damaged, is_whole}
use Rattle.book_forms.proofs.open.Goals as goal

pub returns-then-area-ne-AREA : goal.returns-then-area-ne-AREA
returns-then-area-ne-AREA c = other_size c.args.area.now c.if-area-ne-AREA.true

pub returns-then-is_damaged : goal.returns-then-is_damaged
returns-then-is_damaged c = is_damaged c.args.area.now c.if-area-ne-AREA.false _ c.slots_of-slots.ensures _ c.is_damaged.ensures c.if-is_damaged.true

pub returns : goal.returns
returns c = is_whole c.args.area.now c.if-area-ne-AREA.false _ c.slots_of-slots.ensures _ c.is_damaged.ensures c.if-is_damaged.false
