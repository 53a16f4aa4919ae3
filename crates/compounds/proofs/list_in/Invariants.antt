-- `compounds::list_in` meets its contract, by the laws of the walk to the list of a group.
use Prim.Native.Nat.{◌-◌}
use lib.ListN.{length}
use Rattle.table.proofs.GroupWalks.{GroupWalk}
use Rattle.compounds.proofs.CompoundLaws.{ListLeft}
use Rattle.compounds.proofs.list_in.Given as goal

abbrev pub invariant-loop-at : goal.invariant-loop-at
invariant-loop-at l = GroupWalk l.part 0 l.at (ListLeft l.part l.number l.left)

abbrev pub decreases-loop-at : goal.decreases-loop-at
decreases-loop-at l = length l.part - l.at
