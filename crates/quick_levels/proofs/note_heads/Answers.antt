use Rattle.quick_levels.proofs.WalkLaws.{passed_start, passed_here, heads_broken, heads-stop, heads_more}
use borrow.Author.Tests.{not-false}
use Prim.Native.Nat.{◌-◌}
use mathlib.Core.Path.{refl, sym, ◌∙◌}
use native.Mathlib.Omega.{arith}
use Rattle.quick_levels.proofs.note_heads.Goals as goal

pub loop-i-init : goal.loop-i-init
loop-i-init c = (passed_start _ _ c.requires.0, refl)

pub bounds-part-i-in-loop-i : goal.bounds-part-i-in-loop-i
bounds-part-i-in-loop-i c = omega (arith, (passed_here _ _ c.loop-i.i c.loop-i.invariant.0 c.loop-i-test.true).fits)

pub overflow_cast-n : goal.overflow_cast-n
overflow_cast-n c = omega (arith, (passed_here _ _ c.loop-i.i c.loop-i.invariant.0 c.loop-i-test.true).high)

pub shape_of-heads-then-n-gt2 : goal.shape_of-heads-then-n-gt2
shape_of-heads-then-n-gt2 c = c.loop-i.invariant.1

pub returns-then-n-gt2 : goal.returns-then-n-gt2
returns-then-n-gt2 c = heads_broken _ _ _ c.loop-i.i c.loop-i.invariant.0 c.loop-i.invariant.1

pub shape_of-heads-then-not-plain_head : goal.shape_of-heads-then-not-plain_head
shape_of-heads-then-not-plain_head c = c.loop-i.invariant.1

pub returns-then-not-plain_head : goal.returns-then-not-plain_head
returns-then-not-plain_head c = heads_broken _ _ _ c.loop-i.i c.loop-i.invariant.0 c.loop-i.invariant.1

pub note-requires : goal.note-requires
note-requires c = c.loop-i.invariant.1 ∙ c.requires.1

pub overflow_add-i : goal.overflow_add-i
overflow_add-i c = omega (arith, (passed_here _ _ c.loop-i.i c.loop-i.invariant.0 c.loop-i-test.true).high)

pub overflow_add-i-in-loop-i : goal.overflow_add-i-in-loop-i
overflow_add-i-in-loop-i c = omega (arith, (passed_here _ _ c.loop-i.i c.loop-i.invariant.0 c.loop-i-test.true).fits)

pub loop-i-smaller : goal.loop-i-smaller
loop-i-smaller c = omega (arith, (passed_here _ _ c.loop-i.i c.loop-i.invariant.0 c.loop-i-test.true).fits)

pub loop-i-preserved : goal.loop-i-preserved
loop-i-preserved c =
    (heads_more _ _ _ c.loop-i.i c.loop-i.invariant.0 c.loop-i-test.true c.if-n-gt2.false (sym c.plain_head.ensures ∙ not-false _ c.if-not-plain_head.false-raw) c.note.ensures _ (omega arith), c.note.ensures.grown.room ∙ c.loop-i.invariant.1)

pub shape_of-heads : goal.shape_of-heads
shape_of-heads c = c.loop-i.invariant.1

pub returns : goal.returns
returns c = heads-stop _ _ _ c.loop-i.i c.loop-i.invariant.0 c.loop-i.invariant.1 c.loop-i-test.false
