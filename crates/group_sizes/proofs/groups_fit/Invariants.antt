-- `group_sizes::groups_fit` meets its contract. The loop's invariant: the whole part is well formed exactly where the rest of it is, of as many groups as are left; and sorted exactly where it is so far and the rest is. The measure is the rest's length.
use Prim.Native.Nat.{◌≤◌, ◌-◌}
use mathlib.Core.Path.{◌≡◌}
use mathlib.Core.Bool.{true}
use lib.ListN.{length, drop}
use Rattle.table.specs.Layout.{most_groups}
use Rattle.table.specs.GroupPart.{groups_in}
use Rattle.sections.specs.Known.{GroupsApart}
use Rattle.group_sizes.specs.Walk.{groups_within}
use Rattle.group_sizes.proofs.groups_fit.Given as goal

abbrev pub invariant-loop-at : goal.invariant-loop-at
invariant-loop-at l = (l.at ≤ length l.part)
    × (groups_within most_groups l.part ≡ groups_within l.left (drop l.at l.part))
    × (l.sorted ≡ true → GroupsApart (groups_in (drop l.at l.part)) → GroupsApart (groups_in l.part))
    × (groups_within most_groups l.part ≡ true → GroupsApart (groups_in l.part) → (l.sorted ≡ true) × GroupsApart (groups_in (drop l.at l.part)))

abbrev pub decreases-loop-at : goal.decreases-loop-at
decreases-loop-at l = length l.part - l.at
