-- `respelled`: the two ends of the call.
use mathlib.Core.Path.{◌∙◌}
use borrow.Author.Tests.{not-true, not-false}
use Rattle.respelled.proofs.ListLaws.{entries_is, respelled_kept, respelled_over}
use Rattle.respelled.proofs.respelled.Goals as goal

pub returns-then-not-finish : goal.returns-then-not-finish
returns-then-not-finish c =
    respelled_over _ _ _ _ _ _ _ _ c.respelled_judged-judged.result c.respelled_judged-judged.ensures _ (c.unwrap_or-entries.ensures ∙ entries_is c.respelled_judged-judged.result) _ c.finish.ensures (not-true _ c.if-not-finish.true-raw)

pub returns : goal.returns
returns c =
    respelled_kept _ _ _ _ _ _ _ _ c.respelled_judged-judged.result c.respelled_judged-judged.ensures _ (c.unwrap_or-entries.ensures ∙ entries_is c.respelled_judged-judged.result) _ c.finish.ensures (not-false _ c.if-not-finish.false-raw)
