use Prim.Native.Nat.{◌-◌}
use native.Mathlib.Omega.{arith}
use Rattle.firsts.proofs.Marked.{passing_run}
use Rattle.firsts.proofs.pass_below.Goals as goal

pub loop-at-init : goal.loop-at-init
loop-at-init c = (c.requires.1, omega arith)

pub overflow_cast-part : goal.overflow_cast-part
overflow_cast-part c = omega (arith, c.type_inv.part c.loop-at.at)

pub returns-then-part-at : goal.returns-then-part-at
returns-then-part-at c = c.loop-at.invariant

pub returns-then-part-at-2 : goal.returns-then-part-at-2
returns-then-part-at-2 c = c.loop-at.invariant

pub overflow_add-number : goal.overflow_add-number
overflow_add-number c =
    let l = c in
    omega (arith, l.loop-at.invariant.0.from.few, c.loop-at-test.true)

pub loop-at-preserved : goal.loop-at-preserved
loop-at-preserved c =
    let l = c in
    let k = l.requires in
    (passing_run _ _ _ _ _ k.0 l.loop-at.invariant.0 (omega arith) c.if-part-at.false c.if-part-at-2.false, omega (arith, l.loop-at.invariant.1))

pub returns : goal.returns
returns c = c.loop-at.invariant
