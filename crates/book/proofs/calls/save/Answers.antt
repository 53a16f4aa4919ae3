-- `save`: what was judged, and both buffers cleared.
use Rattle.book_answers.specs.Calls.{save_call}
use Rattle.book.proofs.CallLaws.{leaves}
use Rattle.book.proofs.calls.save.Goals as goal

pub returns : goal.returns
unfolding save_call
returns c =
    let k = c in
    let b = k in
    let j = b in
    let s = j in
    leaves _ _ _ s.args.answer.now _ _ s.args.work.now _ _ _ j.save_judged-told.ensures b.clear.ensures k.clear-2.ensures
