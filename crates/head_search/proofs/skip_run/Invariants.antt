-- `head_search::skip_run` meets its contract, by the laws of a search. The measure is what is left up to `stop`.
use Prim.Native.Nat.{◌-◌}
use Rattle.head_search.specs.Search.{SearchPassed}
use Rattle.head_search.proofs.skip_run.Given as goal

abbrev pub invariant-loop-at : goal.invariant-loop-at
invariant-loop-at l = SearchPassed l.part l.sorted l.c l.from l.at

abbrev pub decreases-loop-at : goal.decreases-loop-at
decreases-loop-at l = l.stop - l.at
