-- `label`: the two ends of the call.
use borrow.Author.Tests.{not-true, not-false}
use Rattle.name.proofs.Answering.{label_kept, label_over}
use Rattle.label_call.proofs.label.Goals as goal

pub returns-then-not-finish : goal.returns-then-not-finish
returns-then-not-finish c =
    let end = c in
    let length = end in
    let judged = length in
    label_over _ _ _ _ _ _ _ _ _ _ _ end.finish.ensures _ judged.judge_input-judged.ensures length.label_length-length.ensures (not-true _ c.if-not-finish.true-raw)

pub returns : goal.returns
returns c =
    let end = c in
    let length = end in
    let judged = length in
    label_kept _ _ _ _ _ _ _ _ _ _ _ end.finish.ensures _ judged.judge_input-judged.ensures length.label_length-length.ensures (not-false _ c.if-not-finish.false-raw)
