-- `screen`: the two ends of the call.
use borrow.Author.Tests.{not-true, not-false}
use Rattle.screen.proofs.Calling.{screen_kept, screen_over}
use Rattle.screen.proofs.screen.Goals as goal

pub returns-then-not-finish : goal.returns-then-not-finish
returns-then-not-finish c =
    screen_over _ _ _ _ _ _ _ _ _ _ _ _ c.finish.ensures _ c.judge_screen-judged.ensures c.name_length-length.ensures (not-true _ c.if-not-finish.true-raw)

pub returns : goal.returns
returns c =
    screen_kept _ _ _ _ _ _ _ _ _ _ _ _ c.finish.ensures _ c.judge_screen-judged.ensures c.name_length-length.ensures (not-false _ c.if-not-finish.false-raw)
