use native.Mathlib.Omega.{arith}
use Rattle.quick_records.proofs.advance.Goals as goal

pub loop-k-init : goal.loop-k-init
loop-k-init c = c.requires

pub overflow_add-k : goal.overflow_add-k
overflow_add-k c = omega (arith, c.loop-k.invariant.1)

pub returns-then-c-set : goal.returns-then-c-set
returns-then-c-set c = c.loop-k.invariant

pub loop-k-preserved : goal.loop-k-preserved
loop-k-preserved c = (omega (arith, c.loop-k.invariant.0), omega arith)

pub returns : goal.returns
returns c = c.loop-k.invariant
