-- `sweep` meets its contract, by the laws of a sweep.
use Rattle.claim_sweep.proofs.SweepLaws.{Sweep}
use Rattle.claim_sweep.proofs.sweep.Given as goal

abbrev pub invariant-loop-q : goal.invariant-loop-q
invariant-loop-q l = Sweep l.xs l.claims.ends l.claims.owners l.initial.k l.k l.end l.last l.q
