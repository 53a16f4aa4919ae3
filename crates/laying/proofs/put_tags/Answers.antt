use Prim.Native.Nat.{◌-◌}
use Rattle.laying.proofs.Tagging.{tag_start, tag_more, tag_stop, tag_over}
use Rattle.laying.proofs.put_tags.Goals as goal

pub returns-then-to-gt-MOST_WORKED : goal.returns-then-to-gt-MOST_WORKED
returns-then-to-gt-MOST_WORKED c = tag_over _ _ _ _ _ c.if-to-gt-MOST_WORKED.true

pub loop-i-init : goal.loop-i-init
loop-i-init c = tag_start _ _ _ _ _

pub loop-i-preserved : goal.loop-i-preserved
loop-i-preserved c = tag_more _ _ _ _ _ _ _ _ c.loop-i-test.true c.loop-i.invariant

pub shape_of-w : goal.shape_of-w
shape_of-w c = c.loop-i.invariant.same

pub returns : goal.returns
returns c = tag_stop _ _ _ _ _ _ _ _ c.loop-i-test.false c.loop-i.invariant
