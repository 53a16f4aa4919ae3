use Prim.Native.Nat.{◌+◌, ◌-◌}
use native.Mathlib.Omega.{arith}
use Rattle.heads.proofs.Passing.{run_more, run-stop}
use Rattle.heads.proofs.pass_run.Goals as goal

pub overflow_cast-part : goal.overflow_cast-part
overflow_cast-part c =
    let l = c in
    omega (arith, c.type_inv.part (l.loop-at.at + 1))

pub returns-then-part-at : goal.returns-then-part-at
returns-then-part-at c =
    let l = c in
    run-stop _ _ _ l.loop-at.at l.loop-at.floor l.loop-at.rising l.loop-at.invariant _ (λ i e. c.if-part-at.true e)

pub overflow_cast-head : goal.overflow_cast-head
overflow_cast-head c =
    let l = c in
    omega (arith, c.type_inv.part l.loop-at.at)

pub overflow_add-floor : goal.overflow_add-floor
overflow_add-floor c =
    let l = c in
    omega (arith, c.type_inv.part l.loop-at.at)

pub loop-at-preserved : goal.loop-at-preserved
loop-at-preserved c =
    let l = c in
    run_more _ _ _ l.loop-at.at l.loop-at.floor l.loop-at.rising l.loop-at.invariant l.requires.0 (omega arith) c.if-part-at.false

pub returns : goal.returns
returns c =
    let l = c in
    run-stop _ _ _ l.loop-at.at l.loop-at.floor l.loop-at.rising l.loop-at.invariant _ (λ i e. omega arith)
