use native.Mathlib.Omega.{arith}
use borrow.Author.Tests.{eqb-true, eqb-false}
use Rattle.finder.proofs.Taking.{walk_shared, more_equal, more_left, walk_fails, walk_end}
use Rattle.finder.proofs.emoji.takes.Goals as goal
use Rattle.finder.proofs.emoji.takes.Goals.{else-at-rest-via-else-at-rest, else-at-rest-via-then-at-rest+else-rest-at}

pub loop-i-init : goal.loop-i-init
loop-i-init c = walk_shared _ _ _ c.shared-start.ensures

pub loop-i-preserved-then-rest-at : goal.loop-i-preserved-then-rest-at
loop-i-preserved-then-rest-at c =
    let l = c in
    more_equal _ _ _ _ l.loop-i.invariant c.loop-i-test.true (c.if-at-rest.true, eqb-true _ _ c.if-rest-at.true-raw)

pub returns-then-e-ne65039 : goal.returns-then-e-ne65039
returns-then-e-ne65039 c =
    let l = c in
    walk_fails _ _ _ _ l.loop-i.invariant c.loop-i-test.true
    (λ n. (elim c.else-at-rest.branch [ else-at-rest-via-then-at-rest+else-rest-at w ↦ eqb-false _ _ w.if-rest-at.false-raw n.1 | else-at-rest-via-else-at-rest w ↦ omega arith ]))
    c.if-e-ne65039.true

pub loop-i-preserved : goal.loop-i-preserved
loop-i-preserved c =
    let l = c in
    more_left _ _ _ _ l.loop-i.invariant c.loop-i-test.true
    (λ n. (elim c.else-at-rest.branch [ else-at-rest-via-then-at-rest+else-rest-at w ↦ eqb-false _ _ w.if-rest-at.false-raw n.1 | else-at-rest-via-else-at-rest w ↦ omega arith ]))
    c.if-e-ne65039.false

pub returns : goal.returns
returns c = walk_end _ _ _ _ c.loop-i.invariant c.loop-i-test.false
