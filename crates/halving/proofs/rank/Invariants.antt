-- `halving::rank` meets its contract, by the laws of a search by halves.
use Rattle.halving.proofs.Halves.{Halving}
use Rattle.halving.proofs.rank.Given as goal

abbrev pub invariant-loop-n : goal.invariant-loop-n
invariant-loop-n l = Halving l.part l.step l.c l.low l.n

abbrev pub decreases-loop-n : goal.decreases-loop-n
decreases-loop-n l = l.n
