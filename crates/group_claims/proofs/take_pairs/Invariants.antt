-- `take_pairs` meets its contract, by the laws of a walk over pairs.
use Rattle.group_numbers.specs.Batch.{claimed}
use Rattle.group_claims.specs.Gaps.{Between}
use Rattle.group_claims.proofs.TakeLaws.{PairWalk}
use Rattle.group_claims.proofs.take_pairs.Given as goal

abbrev pub invariant-loop-pair : goal.invariant-loop-pair
invariant-loop-pair l =
    PairWalk l.pairs l.xs l.n (claimed l.initial.claims l.initial.k) (claimed l.claims l.k) l.pair-iterator × Between l.xs l.low l.high
