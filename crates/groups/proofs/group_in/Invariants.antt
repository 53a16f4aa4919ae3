-- `groups::group_in` meets its contract: the groups passed lack a character, the characters passed are held, and each question is counted.
use Prim.Native.Nat.{◌-◌}
use lib.ListN.{length}
use Rattle.table.specs.Spans.{within}
use Rattle.table.specs.Part.{in_pairs}
use Rattle.table.proofs.GroupWalks.{GroupWalk}
use Rattle.sections.proofs.SortedGroups.{LeftApart}
use Rattle.groups.proofs.GroupLaws.{Asking, Searching}
use Rattle.groups.proofs.group_in.Given as goal

abbrev pub invariant-loop-c : goal.invariant-loop-c
invariant-loop-c l = Asking (λ c. in_pairs c (within l.group.pairs l.part)) l.text l.initial.asked l.asked l.c-index

abbrev pub invariant-groups : goal.invariant-groups
invariant-groups l = Searching l.part l.text l.next l.at l.asked × GroupWalk l.part l.next l.at (LeftApart l.sorted)

abbrev pub decreases-groups : goal.decreases-groups
decreases-groups l = length l.part - l.at
