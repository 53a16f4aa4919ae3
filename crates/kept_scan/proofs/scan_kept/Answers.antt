use native.Mathlib.Omega.{arith}
use Rattle.kept_scan.proofs.Stepping.{scan_start, scan_left, scan_given, scan_taken, scan_more, scan_none, scan_stop}
use Rattle.kept_scan.proofs.scan_kept.Goals as goal

pub loop-at-init : goal.loop-at-init
loop-at-init c = scan_start _ _ _

pub keep_step-requires : goal.keep_step-requires
keep_step-requires c =
    let i = c.loop-at.invariant in
    record { laid = c.requires.laid; least_work_in_bounds = (omega (arith, c.requires.least_work_in_bounds.0, i.same), scan_left _ _ _ _ _ _ i c.loop-at-test.true) }

pub shape_of-w-in_err-took : goal.shape_of-w-in_err-took
shape_of-w-in_err-took c = scan_given _ _ _ _ _ _ c.loop-at.invariant c.loop-at-test.true _ _ c.keep_step.ensures

pub returns-in_err-took : goal.returns-in_err-took
returns-in_err-took c = rw c.from_residual.ensures (scan_none _ _ _ _ (scan_given _ _ _ _ _ _ c.loop-at.invariant c.loop-at-test.true _ _ c.keep_step.ensures))

pub overflow_add-at : goal.overflow_add-at
overflow_add-at c =
    omega (arith, (scan_taken _ _ _ _ _ _ c.loop-at.invariant c.loop-at-test.true _ _ c.keep_step.ensures _ c.in_ok-took.was).1, c.requires.least_work_in_bounds.1)

pub loop-at-smaller : goal.loop-at-smaller
loop-at-smaller c =
    let k = scan_taken _ _ _ _ _ _ c.loop-at.invariant c.loop-at-test.true _ _ c.keep_step.ensures _ c.in_ok-took.was in
    omega (arith, k.0, k.1)

pub loop-at-preserved : goal.loop-at-preserved
loop-at-preserved c =
    scan_more _ _ _ _ _ _ c.loop-at.invariant c.loop-at-test.true _ _ c.keep_step.ensures _ c.in_ok-took.was

pub shape_of-w-then-worked-gt-MOST_WORKED : goal.shape_of-w-then-worked-gt-MOST_WORKED
shape_of-w-then-worked-gt-MOST_WORKED c = c.loop-at.invariant.same

pub returns-then-worked-gt-MOST_WORKED : goal.returns-then-worked-gt-MOST_WORKED
returns-then-worked-gt-MOST_WORKED c = scan_none _ _ _ _ c.loop-at.invariant.same

pub shape_of-w : goal.shape_of-w
shape_of-w c = c.loop-at.invariant.same

pub returns : goal.returns
returns c = scan_stop _ _ _ _ _ _ c.loop-at.invariant c.loop-at-test.false c.if-worked-gt-MOST_WORKED.false
