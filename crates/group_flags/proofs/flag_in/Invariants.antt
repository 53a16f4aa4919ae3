-- `flag_in` meets its contract, by the laws of a walk over the groups that sets flags.
use Rattle.table.proofs.GroupWalks.{GroupWalk}
use Rattle.sections.proofs.SortedGroups.{LeftApart}
use Rattle.group_flags.proofs.FlagWalks.{FlagWalk}
use mathlib.Core.Bool.{true}
use Prim.Native.Nat.{◌-◌}
use lib.ListN.{length}
use Rattle.group_flags.proofs.flag_in.Given as goal

abbrev pub invariant-loop-at : goal.invariant-loop-at
invariant-loop-at g l = FlagWalk (g.F.Flag.of true) l.part l.m l.initial.flags l.flags l.n l.at × GroupWalk l.part l.n l.at (LeftApart l.sorted)

abbrev pub decreases-loop-at : goal.decreases-loop-at
decreases-loop-at g l = length l.part - l.at
