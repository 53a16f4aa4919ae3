use Prim.Native.Nat.{◌-◌}
use native.Mathlib.Omega.{arith}
use mathlib.Core.Path.{sym, ◌∙◌}
use Rattle.normal_cells.proofs.Compacting.{compact_start, compact_emoji, end_inside, end_behind, compact_text, compact_stop}
use Rattle.normal_cells.proofs.normalise.Goals as goal

pub loop-i-init : goal.loop-i-init
loop-i-init c = (compact_start _ _ _, c.requires.unpaired)

pub keep_emoji-at-requires : goal.keep_emoji-at-requires
keep_emoji-at-requires c =
    let p = c.requires.least_work_in_bounds in
    let v = c.loop-i.invariant.0 in
    (omega (arith, p.0, v.same), v.low, omega (arith, c.loop-i-test.true, p.1))

pub loop-i-smaller-then-w-i-eq0 : goal.loop-i-smaller-then-w-i-eq0
loop-i-smaller-then-w-i-eq0 c = omega (arith, c.loop-i-test.true)

pub loop-i-preserved-then-w-i-eq0 : goal.loop-i-preserved-then-w-i-eq0
loop-i-preserved-then-w-i-eq0 c =
    let p = c.requires.least_work_in_bounds in
    let v = c.loop-i.invariant in
    (compact_emoji _ _ _ _ _ _ p.0 p.1 v.0 c.loop-i-test.true c.if-w-i-eq0.true _ _ c.keep_emoji-at.ensures, v.1)

pub token_end-end-requires : goal.token_end-end-requires
token_end-end-requires c =
    let p = c.requires.least_work_in_bounds in
    let v = c.loop-i.invariant.0 in
    (omega (arith, p.0, v.same), c.loop-i-test.true, p.1)

pub keep_text-at-requires : goal.keep_text-at-requires
keep_text-at-requires c =
    let s = c.requires in
    let p = s.least_work_in_bounds in
    let v = c.loop-i.invariant.0 in
    let h = c.loop-i-test.true in
    let e = c.token_end-end.ensures in
    let i = end_inside _ _ _ _ _ _ p.0 p.1 v h _ e in
    record { laid = s.laid; unpaired = c.loop-i.invariant.1; least_work_in_bounds = (omega (arith, p.0, v.same), v.low, end_behind _ _ _ _ _ _ p.0 p.1 v h _ e, omega (arith, i, p.1)) }

pub loop-i-smaller : goal.loop-i-smaller
loop-i-smaller c =
    let p = c.requires.least_work_in_bounds in
    let v = c.loop-i.invariant.0 in
    let h = c.loop-i-test.true in
    omega (arith, h, end_behind _ _ _ _ _ _ p.0 p.1 v h _ c.token_end-end.ensures)

pub loop-i-preserved : goal.loop-i-preserved
loop-i-preserved c =
    let p = c.requires.least_work_in_bounds in
    let v = c.loop-i.invariant.0 in
    let k = c.keep_text-at.ensures in
    (compact_text _ _ _ _ _ _ p.0 p.1 v c.loop-i-test.true _ c.token_end-end.ensures c.if-w-i-eq0.false _ _ k.text_kept, k.unpaired_2)

pub shape_of-unpaired : goal.shape_of-unpaired
shape_of-unpaired c = c.loop-i.invariant.1.size ∙ sym c.requires.unpaired.size

pub shape_of-w : goal.shape_of-w
shape_of-w c = c.loop-i.invariant.0.same

pub returns : goal.returns
returns c =
    let p = c.requires.least_work_in_bounds in
    let v = c.loop-i.invariant in
    record { normal_cells = compact_stop _ _ _ _ _ _ p.0 p.1 v.0 c.loop-i-test.false; unpaired_2 = v.1 }
