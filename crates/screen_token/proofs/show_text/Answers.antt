use Prim.Native.Nat.{◌-◌}
use Rattle.screen_token.proofs.TokenLaws.{texting_start, texting_shown, texting_kept, texting_end}
use Rattle.screen_token.proofs.show_text.Goals as goal
use Rattle.screen_token.proofs.show_text.Goals.{else-w-i-eq958, then-w-i-eq958}

pub loop-i-init : goal.loop-i-init
loop-i-init c = texting_start _ _

pub loop-i-preserved : goal.loop-i-preserved
loop-i-preserved c =
    let i = c.loop-i.invariant in
    let inside = c.loop-i-test.true in
    let room = c.requires in
    (elim c.if-w-i-eq958.branch [ then-w-i-eq958 v ↦ rw v.w-is (texting_shown _ _ _ _ i inside room v.if-w-i-eq958.true) | else-w-i-eq958 v ↦ rw v.w-is (texting_kept _ _ _ _ i inside room v.if-w-i-eq958.false) ])

pub shape_of-w : goal.shape_of-w
shape_of-w c = c.loop-i.invariant.same

pub returns : goal.returns
returns c = texting_end _ _ _ _ c.loop-i.invariant c.loop-i-test.false
