-- `take_groups` meets its contract, by the laws of a walk over the groups.
use Prim.Native.Nat.{◌-◌}
use lib.ListN.{length}
use Rattle.group_numbers.specs.Batch.{claimed}
use Rattle.group_claims.proofs.TakeLaws.{TakeWalk}
use Rattle.group_claims.proofs.take_groups.Given as goal

abbrev pub invariant-loop-at : goal.invariant-loop-at
invariant-loop-at l = TakeWalk l.part l.xs (claimed l.initial.claims l.initial.k) (claimed l.claims l.k) l.n l.at

abbrev pub decreases-loop-at : goal.decreases-loop-at
decreases-loop-at l = length l.part - l.at
