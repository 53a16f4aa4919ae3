use native.Mathlib.Omega.{arith}
use mathlib.Core.Path.{◌∙◌}
use Rattle.kept_scan.proofs.Holding.{items_start, items_more, items_given, items_stop}
use Rattle.kept_scan.proofs.keep_items.Goals as goal

pub of-c-items-requires : goal.of-c-items-requires
of-c-items-requires c = let r = c.requires.least_work_in_bounds.1 in record { ordered = omega (arith, r.filled); inside = r.inside }

pub loop-c-init : goal.loop-c-init
loop-c-init c = items_start _ _ _ _

pub loop-c-preserved : goal.loop-c-preserved
loop-c-preserved c = items_more _ _ _ _ _ _ _ c.loop-c.invariant _ _ c.loop-c-test.true c.keep_text.ensures _ c.in_ok-r.was

pub shape_of-w-in_err-r : goal.shape_of-w-in_err-r
shape_of-w-in_err-r c = c.keep_text.ensures.same ∙ c.loop-c.invariant.same

pub returns-in_err-r : goal.returns-in_err-r
returns-in_err-r c = rw (c.from_residual.ensures, ← c.of-c-items.ensures) (items_given _ _ _ _ _ _ _ c.loop-c.invariant _ _ c.keep_text.ensures)

pub shape_of-w : goal.shape_of-w
shape_of-w c = c.loop-c.invariant.same

pub returns : goal.returns
returns c = rw (← c.of-c-items.ensures) (items_stop _ _ _ _ _ _ _ c.loop-c.invariant c.loop-c-test.false)
