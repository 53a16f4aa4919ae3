use Prim.Native.Nat.{◌-◌}
use native.Mathlib.Omega.{arith}
use mathlib.Core.Path.{◌∙◌}
use Rattle.std.proofs.lemmas.Result.{err_from_is_err_and}
use Rattle.scanning.proofs.Steps.{scan_start, scan_left, scan_taken, scan_more, scan_refused, scan_stop}
use Rattle.scanning.proofs.scan.Goals as goal

pub loop-at-init : goal.loop-at-init
loop-at-init c = scan_start _ _ _

pub step-requires : goal.step-requires
step-requires c =
    let p = c.requires in
    let i = c.loop-at.invariant in
    record { laid = p.laid; least_work_in_bounds = (omega (arith, p.least_work_in_bounds.0, i.same), scan_left _ _ _ _ _ _ i c.loop-at-test.true) }

pub overflow_add-at : goal.overflow_add-at
overflow_add-at c =
    omega (arith, (scan_taken _ _ _ _ _ _ c.loop-at.invariant c.loop-at-test.true _ _ c.step.ensures _ (rw c.in_ok-next.was at c.ok_or.ensures.ok_part)).1)

pub loop-at-smaller : goal.loop-at-smaller
loop-at-smaller c =
    let k = scan_taken _ _ _ _ _ _ c.loop-at.invariant c.loop-at-test.true _ _ c.step.ensures _ (rw c.in_ok-next.was at c.ok_or.ensures.ok_part) in
    omega (arith, k.0, k.1)

pub loop-at-preserved : goal.loop-at-preserved
loop-at-preserved c =
    scan_more _ _ _ _ _ _ c.loop-at.invariant c.loop-at-test.true _ _ c.step.ensures _ (rw c.in_ok-next.was at c.ok_or.ensures.ok_part)

pub shape_of-w-in_err-next : goal.shape_of-w-in_err-next
shape_of-w-in_err-next c = c.step.ensures.same ∙ c.loop-at.invariant.same

pub returns-in_err-next : goal.returns-in_err-next
returns-in_err-next c =
    let p = err_from_is_err_and c.from_residual.result c.from_residual.ensures.1 in
    rw (p.1, p.2) (scan_refused _ _ _ _ _ _ c.loop-at.invariant c.loop-at-test.true _ _ c.step.ensures _ c.ok_or.ensures.value _ c.in_err-next.was)

pub shape_of-w : goal.shape_of-w
shape_of-w c = c.loop-at.invariant.same

pub returns : goal.returns
returns c = scan_stop _ _ _ _ _ _ c.loop-at.invariant c.loop-at-test.false
