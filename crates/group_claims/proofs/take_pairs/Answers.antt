use Rattle.group_claims.proofs.TakeLaws.{pair_start, pair_on, pair-stop}
use Rattle.group_claims.proofs.ClaimLaws.{take-between, next-between}
use Rattle.group_claims.proofs.take_pairs.Goals as goal

pub loop-pair-init : goal.loop-pair-init
loop-pair-init c =
    let e = c.into_iter-pair-iterator.ensures.into_iter_gives in
    let items = c.chunks_exact-pair-items.ensures in
    (pair_start _ _ _ _ c.requires.claims _ (rw e items.size) (rw e items.rest), c.first-high.ensures)

pub loop-pair-preserved-then-in_gap : goal.loop-pair-preserved-then-in_gap
loop-pair-preserved-then-in_gap c =
    let p = c.loop-pair.invariant in
    let s = c.in-Some.ensures.steps in (
      pair_on _ _ _ _ _ _ p.0 _ c.in-Some.pair.now s.1.0 s.1.1 s.0 _
          (take-between _ _ _ _ _ _ _ p.0.takes.claims p.1 (c.in_gap.ensures c.if-in_gap.true)),
      p.1,
    )

pub take_pair-requires-clause-claims : goal.take_pair-requires-clause-claims
take_pair-requires-clause-claims c = c.loop-pair.invariant.0.takes.claims

pub loop-pair-preserved : goal.loop-pair-preserved
loop-pair-preserved c =
    let p = c.loop-pair.invariant in
    let s = c.in-Some.ensures.steps in
    let t = c.take_pair.ensures in
    (pair_on _ _ _ _ _ _ p.0 _ c.in-Some.pair.now s.1.0 s.1.1 s.0 _ t.takes, rw c.unwrap_or-high.ensures (next-between _ _ _ _ t.next))

pub returns : goal.returns
returns c = pair-stop _ _ _ _ _ _ c.loop-pair.invariant.0 c.in-None.ensures.steps.1.0
