-- `put_words`: copied, then cleared behind.
use Rattle.book_keeping.proofs.Writing.{put_filled}
use Rattle.book_keeping.proofs.put_words.Goals as goal

pub returns : goal.returns
returns c =
    let m = c in
    let s = m in
    put_filled s.args.dst.now s.args.src.now _ _ s.requires m.copy_into.ensures c.clear.ensures
