-- `fill_at`: the words of one slot are written.
use Rattle.book_keeping.proofs.Writing.{put_at}
use Rattle.book_keeping.proofs.fill_at.Goals as goal

pub returns : goal.returns
returns c =
    let s = c in
    put_at _ s.args.slots.now s.requires.slots_len s.requires.i_lt_count _ _ c.fill_slot.ensures
