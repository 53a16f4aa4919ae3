use Prim.Native.Nat.{◌-◌}
use Rattle.scalar.specs.Scalar.{is_scalar}
use Rattle.name.proofs.Admitting.{search_start, search_stop, search_hit, search_more}
use Rattle.name.proofs.admit.first_not_scalar.Goals as goal

pub loop-i-init : goal.loop-i-init
loop-i-init c = search_start _ _

pub returns-then-not-is_scalar : goal.returns-then-not-is_scalar
returns-then-not-is_scalar c = search_hit _ _ _ c.loop-i.invariant c.loop-i-test.true (rw (← c.is_scalar.ensures) c.if-not-is_scalar.true-raw)

pub loop-i-preserved : goal.loop-i-preserved
loop-i-preserved c = search_more _ _ _ c.loop-i.invariant c.loop-i-test.true (rw (← c.is_scalar.ensures) c.if-not-is_scalar.false-raw)

pub returns : goal.returns
returns c = search_stop _ _ _ c.loop-i.invariant c.loop-i-test.false
