-- `clear_at`: the words of one slot are cleared.
use Rattle.book_slots.specs.Book.{empty_slot}
use Rattle.book_keeping.proofs.Writing.{put_at, cleared}
use Rattle.book_keeping.proofs.clear_at.Goals as goal

pub returns : goal.returns
returns c =
    let s = c in
    put_at _ s.args.slots.now s.requires.slots_len s.requires.i_lt_count _ empty_slot
    (cleared _ s.args.slots.now s.requires.slots_len s.requires.i_lt_count _ c.clear.ensures)
