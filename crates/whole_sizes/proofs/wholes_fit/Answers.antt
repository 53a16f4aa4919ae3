use Prim.Native.Nat.{◌-◌, ◌<◌}
use native.Mathlib.Omega.{arith}
use mathlib.Core.Path.{◌≡◌, sym, ◌∙◌}
use lib.ListN.{length, take, drop, length-drop}
use Rattle.whole_sizes.specs.Wholes.{SizeOf, whole_size}
use Rattle.whole_sizes.proofs.WalkLaws.{walk_end, walk_more, walk_none, whole-fits, part_tail}
use Rattle.whole_sizes.proofs.wholes_fit.Goals as goal

pub returns-in_default : goal.returns-in_default
returns-in_default c =
    let s = c.args in
    let sized : SizeOf (whole_size (drop c.loop-at.at s.part.now)) c.whole_size.result = rw (part_tail s.part.now c.loop-at.at) at c.whole_size.ensures in
    sym (c.loop-at.invariant.1 ∙ walk_none s.part.now c.loop-at.at (omega arith) (rw c.in_default.is at sized))

pub loop-at-preserved : goal.loop-at-preserved
loop-at-preserved c =
    let s = c.args in
    let sized : SizeOf (whole_size (drop c.loop-at.at s.part.now)) c.whole_size.result = rw (part_tail s.part.now c.loop-at.at) at c.whole_size.ensures in
    let told : (c.in-Some.size ≡ whole_size (drop c.loop-at.at s.part.now)) × (0 < c.in-Some.size) = rw c.in-Some.is at sized in
    (omega (arith, told.0, whole-fits (drop c.loop-at.at s.part.now), length-drop c.loop-at.at s.part.now), c.loop-at.invariant.1 ∙ walk_more s.part.now c.loop-at.at _ (omega arith) told.0 told.1)

pub overflow_add-at : goal.overflow_add-at
overflow_add-at c = omega (arith, (loop-at-preserved c).0)

pub loop-at-smaller : goal.loop-at-smaller
loop-at-smaller c =
    let told : (c.in-Some.size ≡ whole_size (take (length c.args.part.now - c.loop-at.at) (drop c.loop-at.at c.args.part.now))) × (0 < c.in-Some.size) = rw c.in-Some.is at c.whole_size.ensures in
    omega (arith, (loop-at-preserved c).0, told.1)

pub returns : goal.returns
returns c =
    let s = c.args in
    sym (c.loop-at.invariant.1 ∙ walk_end s.part.now c.loop-at.at (omega arith))
