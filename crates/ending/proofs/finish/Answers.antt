-- `ending::finish`: the answer is too long, or is kept.
use Rattle.ending.proofs.Finishing.{finish_over, finish_kept}
use Rattle.ending.proofs.finish.Goals as goal

pub returns-then-n-answer : goal.returns-then-n-answer
returns-then-n-answer c =
    let i = c in
    finish_over _ _ _ _ i.clear.ensures _ i.if-n-answer.true c.clear-then-n-answer.ensures

pub returns : goal.returns
returns c =
    let i = c in
    finish_kept _ _ _ _ i.clear.ensures _ i.if-n-answer.false c.clear-2.ensures
