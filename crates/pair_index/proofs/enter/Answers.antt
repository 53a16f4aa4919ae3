-- `enter` meets its contract: the bit of the second item is put, and the slot says the place.
use mathlib.Core.Path.{refl}
use Rattle.pair_index.proofs.Slots.{enters_none, enters_two}
use Rattle.pair_index.proofs.enter.Goals as goal

pub returns-then-n-ne2 : goal.returns-then-n-ne2
returns-then-n-ne2 c = enters_none _ _ _ _ c.if-n-ne2.true

pub returns : goal.returns
returns c =
    let s = c in
    enters_two s.args.part.now _ _ _ s.args.i _ _ s.requires.unpaired_len.0 refl refl c.put_bit.ensures _ _ _ c.slot_of-k.ensures.0 refl c.widen.ensures
