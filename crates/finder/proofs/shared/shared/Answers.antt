use native.Mathlib.Omega.{arith}
use Rattle.finder.proofs.Sharing.{shared_start, shared_more}
use Rattle.finder.proofs.shared.shared.Goals as goal

pub loop-k-init : goal.loop-k-init
loop-k-init c = shared_start _ _

pub loop-k-preserved : goal.loop-k-preserved
loop-k-preserved c = shared_more _ _ _ c.loop-k.invariant (omega arith) (omega arith) c.if-a-k.false
