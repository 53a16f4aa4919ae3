-- `pair_in` meets its contract: the pair is among the records from `at` on.
use Prim.Native.Nat.{◌-◌}
use Rattle.table.specs.Layout.{the_table}
use Rattle.pairs.proofs.Pairs.{PairWalk}
use Rattle.pairs.proofs.pair_in.Given as goal

abbrev pub invariant-loop-at : goal.invariant-loop-at
invariant-loop-at l = PairWalk (the_table l.words) l.part l.a l.b l.to l.at l.unpaired

abbrev pub decreases-loop-at : goal.decreases-loop-at
decreases-loop-at l = l.to - l.at
