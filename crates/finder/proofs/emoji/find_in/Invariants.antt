-- `finder::emoji::find_in` meets its contract: the loop keeps the best match of the records before, and the records that are left.
use Prim.Native.Nat.{◌-◌}
use lib.ListN.{length}
use Rattle.finder.proofs.FindingLaws.{Finder}
use Rattle.finder.proofs.emoji.find_in.Given as goal

abbrev pub invariant-loop-at : goal.invariant-loop-at
invariant-loop-at l = Finder l.part l.rest l.sorted l.best l.number l.at

abbrev pub decreases-loop-at : goal.decreases-loop-at
decreases-loop-at l = length l.part - l.at
