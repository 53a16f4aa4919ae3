-- Refusal 12: "the first group that holds every character, else 12", and how often the search for it asks.
use Rattle.std.specs.Prelude as std
use Rattle.std.specs.Prelude.{ℕ, suc, Bool, not, cond, List, [], ◌∷◌, map, length, Some, None}
use Rattle.std.proofs.Math.Option.{Option, none, some}
use Rattle.lists.specs.Lists.{all, total}
use Rattle.table.specs.Table.{Group}
use Rattle.table.specs.Lookup.{holds}
use Rattle.groups.specs.declared.FoundGroup.{FoundGroup}
use Rattle.groups.specs.declared.GroupSearch.{GroupSearch}

-- the group holds every character of the text
abbrev pub holds_all : List ℕ → Group → Bool
holds_all s g = all (holds g) s

-- a group with its number
pub record Numbered : Type 0 where
  pub number : ℕ
  pub group : Group

-- the first group that holds the text, the groups being numbered from n on
unfoldable pub group_from : ℕ → List Group → List ℕ → Option Numbered
group_from n [] s = none
group_from n (g ∷ gs) s = let later = group_from (suc n) gs s in cond (holds_all s g) (some (record { number = n; group = g })) later

-- "the first group that holds every character"
unfoldable pub group_of : List Group → List ℕ → Option Numbered
unfolding group_from
group_of gs s = group_from 0 gs s

-- the elements up to and with the first that passes the test, or all where none does
unfoldable pub up_to : {A : Type 0} → (A → Bool) → List A → List A
up_to p [] = []
up_to p (x ∷ xs) = let later = up_to p xs in x ∷ cond (p x) [] later

-- "once for each place of the text up to the first missing one", that one included
unfoldable pub asked_in : List ℕ → Group → ℕ
unfolding up_to
asked_in s g = length (up_to (λ c. not (holds g c)) s)

-- 02, Item 3: "how often it asked whether a group holds a character, exactly: once for each place of the text up to the first missing one,
-- in each group up to the first that holds all, or in every group if none does"
unfoldable pub asked : List Group → List ℕ → ℕ
unfolding up_to asked_in
asked gs s = total (map (asked_in s) (up_to (holds_all s) gs))

-- the code's answer for a group
abbrev pub group_found : Option Numbered → std.Option FoundGroup
group_found none = None
group_found (some g) = Some (record { number = g.number; restricted = g.group.restricted; whitelisted = g.group.whitelisted })

-- the code's answer for the search
abbrev pub search_of : List Group → List ℕ → GroupSearch
search_of gs s = record { found = group_found (group_of gs s); asked = asked gs s }
