use Rattle.quick_levels.proofs.WalkLaws.{lifting_start, lifting_more, lifting_stop, passed_here, passed_few}
use Prim.Native.Nat.{◌-◌}
use mathlib.Core.Path.{◌∙◌}
use native.Mathlib.Omega.{arith}
use Rattle.quick_levels.proofs.lift.Goals as goal

pub loop-i-init : goal.loop-i-init
loop-i-init c = lifting_start _ _ _ c.requires.holds.0

pub bounds-part-i : goal.bounds-part-i
bounds-part-i c = omega (arith, (passed_here _ _ c.loop-i.i c.loop-i.invariant.walk c.loop-i-test.true).fits)

pub overflow_cast-n : goal.overflow_cast-n
overflow_cast-n c = omega (arith, (passed_here _ _ c.loop-i.i c.loop-i.invariant.walk c.loop-i-test.true).high)

pub lift_record-more-requires : goal.lift_record-more-requires
lift_record-more-requires c =
    record { le_n = ((passed_here _ _ c.loop-i.i c.loop-i.invariant.walk c.loop-i-test.true).low, passed_few _ _ c.loop-i.i c.loop-i.invariant.walk c.requires.holds.1 c.loop-i-test.true, (passed_here _ _ c.loop-i.i c.loop-i.invariant.walk c.loop-i-test.true).fits); from_len = (c.requires.from_len.0, c.loop-i.invariant.room ∙ c.requires.from_len.1) }

pub overflow_add-i : goal.overflow_add-i
overflow_add-i c = omega (arith, (passed_here _ _ c.loop-i.i c.loop-i.invariant.walk c.loop-i-test.true).high)

pub overflow_add-i-in-loop-i : goal.overflow_add-i-in-loop-i
overflow_add-i-in-loop-i c = omega (arith, (passed_here _ _ c.loop-i.i c.loop-i.invariant.walk c.loop-i-test.true).fits)

pub loop-i-smaller : goal.loop-i-smaller
loop-i-smaller c = omega (arith, (passed_here _ _ c.loop-i.i c.loop-i.invariant.walk c.loop-i-test.true).fits)

pub loop-i-preserved : goal.loop-i-preserved
loop-i-preserved c = lifting_more _ _ _ _ _ c.loop-i.i c.loop-i.invariant _ _ c.loop-i-test.true c.lift_record-more.ensures _ (omega arith)

pub shape_of-to : goal.shape_of-to
shape_of-to c = c.loop-i.invariant.room

pub returns : goal.returns
returns c = lifting_stop _ _ _ _ _ c.loop-i.i c.loop-i.invariant c.loop-i-test.false
