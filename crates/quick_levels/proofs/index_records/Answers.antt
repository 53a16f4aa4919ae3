use Rattle.quick_levels.proofs.WalkLaws.{indexing_start, indexing_more, indexing_stop, passed_here}
use borrow.Author.Tests.{not-false}
use Rattle.lists.specs.Tests.{never}
use Prim.Native.Nat.{◌-◌}
use mathlib.Core.Path.{refl, sym, ◌∙◌}
use mathlib.Core.Bool.{true}
use native.Mathlib.Omega.{arith}
use Rattle.quick_levels.proofs.index_records.Goals as goal

pub loop-i-init : goal.loop-i-init
loop-i-init c = (indexing_start _ _ _ c.requires.holds.0 c.requires.part_len_bound.1, refl)

pub bounds-part-i : goal.bounds-part-i
bounds-part-i c = omega (arith, (passed_here _ _ c.loop-i.i c.loop-i.invariant.0.walk c.loop-i-test.true).fits)

pub overflow_cast-n : goal.overflow_cast-n
overflow_cast-n c = omega (arith, (passed_here _ _ c.loop-i.i c.loop-i.invariant.0.walk c.loop-i-test.true).high)

pub overflow_add-i : goal.overflow_add-i
overflow_add-i c = omega (arith, (passed_here _ _ c.loop-i.i c.loop-i.invariant.0.walk c.loop-i-test.true).fits)

pub keep-requires : goal.keep-requires
keep-requires c =
    record { slots_in = c.loop-i.invariant.0.full; s_in_bounds = (λ two. omega (arith, (passed_here _ _ c.loop-i.i c.loop-i.invariant.0.walk c.loop-i-test.true).fits), c.requires.part_len_bound.0) }

pub shape_of-slots-then-not-keep : goal.shape_of-slots-then-not-keep
shape_of-slots-then-not-keep c = c.keep.ensures.slots.room ∙ sym c.loop-i.invariant.0.full.room ∙ c.loop-i.invariant.1

pub returns-then-not-keep : goal.returns-then-not-keep
returns-then-not-keep c = λ e. never true refl (sym e)

pub overflow_add-i-in-loop-i : goal.overflow_add-i-in-loop-i
overflow_add-i-in-loop-i c = omega (arith, (passed_here _ _ c.loop-i.i c.loop-i.invariant.0.walk c.loop-i-test.true).high)

pub overflow_add-i-in-loop-i-2 : goal.overflow_add-i-in-loop-i-2
overflow_add-i-in-loop-i-2 c = omega (arith, (passed_here _ _ c.loop-i.i c.loop-i.invariant.0.walk c.loop-i-test.true).fits)

pub loop-i-smaller : goal.loop-i-smaller
loop-i-smaller c = omega (arith, (passed_here _ _ c.loop-i.i c.loop-i.invariant.0.walk c.loop-i-test.true).fits)

pub loop-i-preserved : goal.loop-i-preserved
loop-i-preserved c =
    (indexing_more _ _ _ c.loop-i.i c.loop-i.invariant.0 _ c.loop-i-test.true c.requires.holds.1 _ (not-false _ c.if-not-keep.false-raw) c.keep.ensures _ (omega arith), c.keep.ensures.slots.room ∙ sym c.loop-i.invariant.0.full.room ∙ c.loop-i.invariant.1)

pub shape_of-slots : goal.shape_of-slots
shape_of-slots c = c.loop-i.invariant.1

pub returns : goal.returns
returns c = λ e. indexing_stop _ _ _ c.loop-i.i c.loop-i.invariant.0 c.loop-i-test.false
