-- The second items of composition pairs, decomposition by decomposition.
use Rattle.std.specs.Prelude.{ℕ, ◌≡◌, Bool, true, not, ◌&&◌, ◌||◌, List, eqb}
use Rattle.lists.specs.Lists.{all}
use Rattle.table.specs.Table.{Headed, Table}
use Rattle.table.specs.Lookup.{in_quick_check}
use Rattle.text.specs.QuickCheck.{second_item}
use Rattle.rule_7.specs.Pairs.{pair_of}

-- a record is a composition pair, and x its second item
unfoldable pub second_is : Table → ℕ → ℕ → List ℕ → Bool
unfolding pair_of
second_is t x h items = pair_of t h items && eqb (second_item items) x

abbrev pub second_is_in : Table → ℕ → Headed → Bool
second_is_in t x r = second_is t x r.head r.items

-- a record is no composition pair, or its second item is in the set
unfoldable pub second_held : Table → ℕ → List ℕ → Bool
unfolding pair_of
second_held t h items = not (pair_of t h items) || in_quick_check t (second_item items)

abbrev pub second_held_in : Table → Headed → Bool
second_held_in t r = second_held t r.head r.items

-- where `held` says so, every second item of the table's composition pairs is in the set
abbrev pub SecondsHeld : Table → Bool → Type 0
SecondsHeld t held = held ≡ true → all (second_held_in t) t.decompositions ≡ true
