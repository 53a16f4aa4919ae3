use Prim.Native.Nat.{◌+◌, ◌-◌}
use native.Mathlib.Omega.{arith}
use Rattle.head_search.proofs.Searching.{run_none, run_on}
use Rattle.head_search.proofs.skip_run.Goals as goal

pub loop-at-init : goal.loop-at-init
loop-at-init c = run_none _ _ _ _

pub overflow_cast-part : goal.overflow_cast-part
overflow_cast-part c =
    let l = c in
    omega (arith, c.type_inv.part (l.loop-at.at + 1))

pub loop-at-preserved : goal.loop-at-preserved
loop-at-preserved c =
    let l = c in
    run_on _ _ _ _ l.loop-at.at _ l.loop-at.invariant (omega arith) c.if-part-at.false c.if-head-c.false
