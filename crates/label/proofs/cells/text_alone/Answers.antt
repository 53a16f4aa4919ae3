use Prim.Native.Nat.{◌<◌}
use native.Mathlib.Omega.{arith}
use lib.ListN.{length}
use Rattle.std.proofs.Common.{rules}
use Rattle.label.proofs.CellLaws.{alone_start, alone_stop, alone_emoji, alone_text}
use Rattle.label.proofs.cells.text_alone.Goals as goal
use Rattle.label.proofs.cells.text_alone.Goals.{else-tags-i-ne0, then-tags-i-ne0}

pub loop-i-init : goal.loop-i-init
loop-i-init c = alone_start _ _

pub offset_bounds-tags-m : goal.offset_bounds-tags-m
offset_bounds-tags-m c = let p = c.loop-i in let k : p.i < length p.tags = search rules in omega (arith, p.invariant.few, k)

pub bounds-tags-m : goal.bounds-tags-m
bounds-tags-m c = let p = c.loop-i in let k : p.i < length p.tags = search rules in omega (arith, p.invariant.few, k)

pub overflow_add-m : goal.overflow_add-m
overflow_add-m c = let p = c.loop-i in let k : p.i < length p.tags = search rules in omega (arith, p.invariant.few, k)

pub loop-i-preserved : goal.loop-i-preserved
loop-i-preserved c =
    let p = c.loop-i in
    let h = c.loop-i-test.true in
    let k : p.i < length p.tags = search rules in
    let k₀ : p.i < length c.split_at_mut-codes.result.1.now = omega (arith, k, p.invariant.same) in
    (elim c.if-tags-i-ne0.branch [ then-tags-i-ne0 w ↦ rw (w.tags-is, w.m-is) (alone_text _ _ _ p.m p.i p.invariant h k₀ w.if-tags-i-ne0.true) | else-tags-i-ne0 w ↦ rw (w.tags-is, w.m-is) (alone_emoji _ _ _ p.m p.i p.invariant h k₀ w.if-tags-i-ne0.false) ])

pub returns : goal.returns
returns c =
    let p = c.requires in
    let parts = c.split_at_mut-codes.ensures in
    alone_stop _ _ _ _ _ _ c.loop-i.i p.least_work_in_bounds p.n_le_most_worked parts.front parts.back c.loop-i.invariant c.loop-i-test.false
