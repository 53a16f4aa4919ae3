use Rattle.line_reading.proofs.Splits.{passed_none, passed_more, passed_found, passed_all}
use native.Mathlib.Omega.{arith}
use Rattle.line_reading.proofs.reading.find.Goals as goal

pub loop-i-init : goal.loop-i-init
loop-i-init c = passed_none _ _

pub returns-then-x-b : goal.returns-then-x-b
returns-then-x-b c = passed_found c.loop-i.invariant (omega arith) c.if-x-b.true

pub loop-i-preserved : goal.loop-i-preserved
loop-i-preserved c = passed_more c.loop-i.invariant (omega arith) c.if-x-b.false

pub returns : goal.returns
returns c = omega (arith, passed_all c.loop-i.invariant (omega arith))
