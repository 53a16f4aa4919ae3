-- `decomposed`: each refusal is a law of the tests, and the end is what `decompose_into` and `arrange` leave.
use native.Mathlib.Omega.{arith}
use Rattle.full_decomposition.proofs.Placing.{too_long, no_work, no_room, ordered}
use Rattle.full_decomposition.proofs.decomposed.Goals as goal

pub returns-then-n-gt-MOST_WORKED : goal.returns-then-n-gt-MOST_WORKED
returns-then-n-gt-MOST_WORKED c = too_long _ _ _ _ (c.decompose_into-n.ensures.over c.if-n-gt-MOST_WORKED.true)

pub returns-then-n-work : goal.returns-then-n-work
returns-then-n-work c =
    let d = c.decompose_into-n.ensures in
    let short = c.if-n-gt-MOST_WORKED.false in
    no_work _ _ _ _ _ short (d.whole short).end c.if-n-work.true

pub returns-then-n-answer : goal.returns-then-n-answer
returns-then-n-answer c =
    let d = c.decompose_into-n.ensures in
    let short = c.if-n-gt-MOST_WORKED.false in
    no_room _ _ _ _ _ short (d.whole short).end c.if-n-work.false (omega (arith, c.if-n-answer.true, d.same))

pub returns : goal.returns
returns c =
    let arranged = c in
    let room = arranged in
    let d = room.decompose_into-n.ensures in
    let short = room.if-n-gt-MOST_WORKED.false in
    ordered _ _ _ _ _ _ _ _ short (d.whole short) room.if-n-work.false room.if-n-answer.false arranged.arrange.ensures
