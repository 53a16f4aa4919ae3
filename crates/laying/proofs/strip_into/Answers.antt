use mathlib.Core.Path.{◌∙◌, ap}
use lib.ListN.{length}
use lib.Seq.{length-sets}
use Rattle.laying.proofs.Stripping.{strip_start, strip_skip, strip_put, strip-stop}
use Rattle.laying.proofs.strip_into.Goals as goal

pub loop-c-init : goal.loop-c-init
loop-c-init c = strip_start _ _ _

pub loop-c-preserved-then-c-eq65039 : goal.loop-c-preserved-then-c-eq65039
loop-c-preserved-then-c-eq65039 c = strip_skip _ _ _ _ _ _ c.loop-c.invariant c.loop-c-test.true c.if-c-eq65039.true

pub loop-c-preserved : goal.loop-c-preserved
loop-c-preserved c = strip_put _ _ _ _ _ _ c.loop-c.invariant c.loop-c-test.true c.if-c-eq65039.false _ _ c.put-to.ensures

pub shape_of-out : goal.shape_of-out
shape_of-out c = ap length c.loop-c.invariant.put ∙ simp length-sets

pub returns : goal.returns
returns c = strip-stop _ _ _ _ _ _ c.loop-c.invariant c.loop-c-test.false
