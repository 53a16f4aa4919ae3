-- The components that some members make of the groups: groups that hold one member are joined, and so on from group to group. Each group
-- has a number, 0 where it holds no member.
use Rattle.std.specs.Prelude.{ℕ, ◌<◌, ◌≡◌, Bool, true, false, List, [], length, get_or}
use Rattle.std.proofs.Math.Option.{none}
use Rattle.table.specs.Table.{Group}
use Rattle.table.specs.Layout.{most_groups}
use Rattle.table.specs.Lookup.{holds}

-- a group that holds nothing
unfoldable pub no_group : Group
no_group = record { restricted = false; whitelisted = false; ranges = []; sequences = none }

-- group i of a list, counted from 0
unfoldable pub nth : List Group → ℕ → Group
unfolding no_group
nth gs i = get_or gs i no_group

-- groups i and j hold one of the members, those that pass the test, both
pub record Linked (gs : List Group) (is_member : ℕ → Bool) (i j : ℕ) : Type 0 where
  pub member : ℕ
  pub listed : is_member member ≡ true
  pub first : holds (nth gs i) member ≡ true
  pub second : holds (nth gs j) member ≡ true

-- groups of one component agree on a test
abbrev pub Agree : (ℕ → Bool) → List ℕ → Type 0
Agree p k = (i j : ℕ) → 0 < get_or k i 0 → get_or k i 0 ≡ get_or k j 0 → p i ≡ p j

-- The numbers of the components: a group has one exactly when it holds a member; two groups that hold one member have the same; and two that
-- have the same are joined, since every test on which groups that hold one member agree is one on which they agree.
pub record Components (gs : List Group) (is_member : ℕ → Bool) (k : List ℕ) : Type 0 where
  pub size : length k ≡ most_groups
  pub holding : (i : ℕ) → 0 < get_or k i 0 → Linked gs is_member i i
  pub joined : (i j : ℕ) → Linked gs is_member i j → (0 < get_or k i 0) × (get_or k i 0 ≡ get_or k j 0)
  pub apart : (p : ℕ → Bool) → ((i j : ℕ) → Linked gs is_member i j → p i ≡ p j) → Agree p k
