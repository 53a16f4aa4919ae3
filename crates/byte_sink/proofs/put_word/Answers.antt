use mathlib.Core.Path.{refl}
use Rattle.byte_sink.proofs.Adding.{wording_start, wording_more, wording_end}
use Rattle.byte_sink.proofs.put_word.Goals as goal

pub loop-b-init : goal.loop-b-init
loop-b-init c = wording_start _ _ _

pub loop-b-preserved : goal.loop-b-preserved
loop-b-preserved c = wording_more _ _ _ _ _ _ c.loop-b.invariant c.loop-b-test.true _ refl _ _ c.put-r.ensures

pub returns : goal.returns
returns c = wording_end _ _ _ _ _ _ c.loop-b.invariant c.loop-b-test.false

pub shape_of-out : goal.shape_of-out
shape_of-out c = (returns c).same
