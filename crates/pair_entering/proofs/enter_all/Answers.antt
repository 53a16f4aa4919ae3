use Prim.Native.Nat.{◌-◌}
use native.Mathlib.Omega.{arith}
use mathlib.Core.Path.{refl, sym, ◌∙◌}
use Rattle.pair_entering.proofs.Entering.{entering_start, entering_here, entering_on, entering_stop}
use Rattle.pair_entering.proofs.enter_all.Goals as goal

pub loop-i-init : goal.loop-i-init
loop-i-init c = (entering_start _ _ c.requires.part_value.0 c.requires.unpaired_value, refl)

pub bounds-part-i : goal.bounds-part-i
bounds-part-i c = omega (arith, (entering_here _ _ c.loop-i.i c.loop-i.invariant.0 c.loop-i-test.true).fits)

pub overflow_cast-n : goal.overflow_cast-n
overflow_cast-n c = omega (arith, (entering_here _ _ c.loop-i.i c.loop-i.invariant.0 c.loop-i-test.true).high)

pub enter-requires : goal.enter-requires
enter-requires c =
    let h = entering_here _ _ c.loop-i.i c.loop-i.invariant.0 c.loop-i-test.true in
    record { unpaired_len = (c.loop-i.invariant.0.size, omega (arith, h.fits, c.requires.part_value.1)); n_in_bounds = omega (arith, h.fits) }

pub overflow_add-i : goal.overflow_add-i
overflow_add-i c = omega (arith, (entering_here _ _ c.loop-i.i c.loop-i.invariant.0 c.loop-i-test.true).fits)

pub overflow_add-i-in-loop-i : goal.overflow_add-i-in-loop-i
overflow_add-i-in-loop-i c = omega (arith, (entering_here _ _ c.loop-i.i c.loop-i.invariant.0 c.loop-i-test.true).fits)

pub enter_run-i-requires : goal.enter_run-i-requires
enter_run-i-requires c =
    let w = c.loop-i in
    let h = c.loop-i-test.true in
    let s = c in
    (entering_on _ _ w.i w.invariant.0 _ h (omega (arith, h, s.requires.part_value.1)) c.enter.ensures _ (omega arith), s.requires.part_value.1)

pub loop-i-smaller : goal.loop-i-smaller
loop-i-smaller c = omega (arith, c.loop-i-test.true, c.enter_run-i.ensures.1)

pub loop-i-preserved : goal.loop-i-preserved
loop-i-preserved c = (c.enter_run-i.ensures.0, c.enter_run-i.ensures.0.size ∙ sym c.loop-i.invariant.0.size ∙ c.loop-i.invariant.1)

pub shape_of-unpaired : goal.shape_of-unpaired
shape_of-unpaired c = c.loop-i.invariant.1

pub returns : goal.returns
returns c = entering_stop _ _ c.loop-i.i c.loop-i.invariant.0 c.loop-i-test.false
