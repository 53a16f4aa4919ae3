use Prim.Native.Nat.{◌-◌}
use native.Mathlib.Omega.{arith}
use mathlib.Core.Path.{sym, ◌∙◌}
use Rattle.pair_entering.proofs.Entering.{entering_here, entering_run}
use Rattle.pair_entering.proofs.enter_run.Goals as goal

pub loop-i-init : goal.loop-i-init
loop-i-init c = (c.requires.0, omega arith)

pub bounds-part-i : goal.bounds-part-i
bounds-part-i c = omega (arith, (entering_here _ _ c.loop-i.i c.loop-i.invariant.0 c.loop-i-test.true).fits)

pub overflow_cast-part : goal.overflow_cast-part
overflow_cast-part c = omega (arith, (entering_here _ _ c.loop-i.i c.loop-i.invariant.0 c.loop-i-test.true).high)

pub shape_of-unpaired-then-part-i : goal.shape_of-unpaired-then-part-i
shape_of-unpaired-then-part-i c = c.loop-i.invariant.0.size ∙ sym c.requires.0.size

pub returns-then-part-i : goal.returns-then-part-i
returns-then-part-i c = c.loop-i.invariant

pub enter-requires : goal.enter-requires
enter-requires c =
    let h = entering_here _ _ c.loop-i.i c.loop-i.invariant.0 c.loop-i-test.true in
    record { unpaired_len = (c.loop-i.invariant.0.size, omega (arith, h.fits, c.requires.1)); n_in_bounds = omega (arith, h.fits, c.if-part-i.false) }

pub overflow_add-i-in-loop-i : goal.overflow_add-i-in-loop-i
overflow_add-i-in-loop-i c = omega (arith, (entering_here _ _ c.loop-i.i c.loop-i.invariant.0 c.loop-i-test.true).high, c.if-part-i.false)

pub overflow_add-i-in-loop-i-2 : goal.overflow_add-i-in-loop-i-2
overflow_add-i-in-loop-i-2 c = omega (arith, (entering_here _ _ c.loop-i.i c.loop-i.invariant.0 c.loop-i-test.true).fits, c.if-part-i.false)

pub loop-i-smaller : goal.loop-i-smaller
loop-i-smaller c = omega (arith, (entering_here _ _ c.loop-i.i c.loop-i.invariant.0 c.loop-i-test.true).fits, c.if-part-i.false)

pub loop-i-preserved : goal.loop-i-preserved
loop-i-preserved c =
    let w = c.loop-i in
    let h = c.loop-i-test.true in
    (entering_run _ _ w.i w.invariant.0 _ h (omega (arith, h, c.requires.1)) _ c.if-part-i.false c.enter.ensures _ (omega arith), omega (arith, w.invariant.1))

pub shape_of-unpaired : goal.shape_of-unpaired
shape_of-unpaired c = c.loop-i.invariant.0.size ∙ sym c.requires.0.size

pub returns : goal.returns
returns c = c.loop-i.invariant
