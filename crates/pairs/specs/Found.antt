-- Composition pairs of two codepoints among the records, and what the code that finds them answers.
use Rattle.std.specs.Prelude.{ℕ, ◌+◌, ◌≡◌, Bool, ◌&&◌, List, [], ◌∷◌, get_or, take, drop, Some, None}
use Rattle.std.specs.Prelude as std
use Rattle.std.proofs.Math.Option.{Option, none, some}
use Rattle.table.specs.Table.{Table, Headed}
use Rattle.text.specs.Composition.{is_pair}
use Rattle.unpaired.specs.Unpaired.{Unpaired}
use Rattle.lists.specs.Lists.{same_list}

-- what two codepoints were found to compose to
abbrev pub composed_to : std.Option ℕ → Option ℕ
composed_to (Some h) = some h
composed_to None = none

-- the record head, count, items at the place `at` of a part
abbrev pub headed_at : List ℕ → ℕ → Headed
headed_at part at = record { head = get_or part at 0; items = take (get_or part (at + 1) 0) (drop (at + 2) part) }

-- a record is a composition pair with these two items
abbrev pub is_pair_of : Table → ℕ → ℕ → Headed → Bool
is_pair_of t a b r = is_pair t r && same_list r.items (a ∷ b ∷ [])

-- the record at the place `at` is a composition pair with these two items
unfoldable pub pair_at : Table → List ℕ → ℕ → ℕ → ℕ → Bool
unfolding is_pair
pair_at t part at a b = is_pair_of t a b (headed_at part at)

-- o was to be found, and the set is `set` then
pub record PairFound (t : Table) (set : List ℕ) (o : Option ℕ) (r : std.Option ℕ) : Type 0 where
  pub is : composed_to r ≡ o
  pub unpaired : Unpaired t set
