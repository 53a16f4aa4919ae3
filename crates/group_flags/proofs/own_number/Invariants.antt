-- `own_number` meets its contract, by the laws of a walk over the groups.
use Prim.Native.Nat.{◌-◌}
use lib.ListN.{length}
use Rattle.table.proofs.GroupWalks.{GroupWalk}
use Rattle.sections.proofs.SortedGroups.{LeftApart}
use Rattle.group_flags.proofs.FlagWalks.{Without}
use Rattle.group_flags.proofs.own_number.Given as goal

abbrev pub invariant-loop-at : goal.invariant-loop-at
invariant-loop-at l = GroupWalk l.part l.n l.at (Without l.part l.c l.n) × GroupWalk l.part l.n l.at (LeftApart l.sorted)

abbrev pub decreases-loop-at : goal.decreases-loop-at
decreases-loop-at l = length l.part - l.at
