-- `moved`: the two ends of the call.
use borrow.Author.Tests.{not-true, not-false}
use Rattle.moved.proofs.MovedLaws.{moved-kept, moved_over}
use Rattle.moved.proofs.moved.Goals as goal

pub moved_words-length-requires : goal.moved_words-length-requires
moved_words-length-requires c = c.moved_judged-judged.ensures.few

pub returns-then-not-finish : goal.returns-then-not-finish
returns-then-not-finish c =
    moved_over _ _ _ _ _ _ _ _ _ c.moved_judged-judged.ensures _ c.moved_words-length.ensures _ c.finish.ensures (not-true _ c.if-not-finish.true-raw)

pub returns : goal.returns
returns c =
    moved-kept _ _ _ _ _ _ _ _ _ c.moved_judged-judged.ensures _ c.moved_words-length.ensures _ c.finish.ensures (not-false _ c.if-not-finish.false-raw)
