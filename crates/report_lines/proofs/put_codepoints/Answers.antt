use native.Mathlib.Omega.{arith}
use Rattle.report_lines.proofs.Putting.{showing_start, showing_more, showing_end}
use Rattle.report_lines.proofs.put_codepoints.Goals as goal

pub loop-c-init : goal.loop-c-init
loop-c-init c = showing_start _ _ _ _

pub loop-c-preserved : goal.loop-c-preserved
loop-c-preserved c = showing_more _ _ _ _ _ _ _ c.loop-c.invariant (omega arith) _ _ c.put_codepoint-r.ensures

pub returns : goal.returns
returns c = showing_end _ _ _ _ _ _ _ c.loop-c.invariant (omega arith)

pub shape_of-out : goal.shape_of-out
shape_of-out c = (returns c).same
