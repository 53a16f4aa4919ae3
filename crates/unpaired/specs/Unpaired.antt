-- What a call found of its table: a bit for each record that is no composition pair, that rule 8 holds, and an index of the records; and what
-- the functions that keep them answer.
use Rattle.std.specs.Prelude.{ℕ, ◌+◌, ◌*◌, ◌/◌, ◌<◌, ◌≡◌, Bool, true, false, not, ◌&&◌, cond, List, [], ◌∷◌, length, eqb}
use Rattle.table.specs.Table.{Table, Headed}
use Rattle.table.specs.Lookup.{in_quick_check}
use Rattle.bit_sets.specs.Sets.{has}
use Rattle.text.specs.Composition.{is_pair}
use Rattle.lists.specs.Lists.{mem}
use Rattle.text.specs.Decomposition.{class_of}
use Rattle.text.specs.QuickCheck.{Quick}
use Rattle.pair_index.specs.Index.{known_words, made_place, Indexed}

-- a decomposition of head to two items, the first of them a, is a composition pair
abbrev pub may_compose : Table → ℕ → ℕ → Bool
may_compose t head a = not (mem head t.exclusions) && eqb (class_of t head) 0 && eqb (class_of t a) 0

-- the words of the records' bits, one for each three words of a section: 131,073 words have 43,691
abbrev pub pair_words : ℕ
pair_words = 1366

abbrev pub pair_places : ℕ
pair_places = pair_words * 32

-- 02, Item 11, rule 8, on a set that isn't empty
abbrev pub QuickHolds : Table → Type 0
QuickHolds t = Quick t (λ c. not (in_quick_check t c))

-- where there is no record
abbrev pub no_record : Headed
no_record = record { head = 0; items = [] }

-- the record that starts within the three words from 3 * i on; the first one stands at `at`. A record takes at least three words.
unfoldable pub record_at : ℕ → List Headed → ℕ → Headed
record_at at [] i = no_record
record_at at (x ∷ xs) i = cond (eqb (at / 3) i) x (record_at (at + 2 + length x.items) xs i)

-- the decomposition that starts there is a composition pair
unfoldable pub is_pair_at : Table → ℕ → Bool
unfolding is_pair record_at
is_pair_at t i = is_pair t (record_at 0 t.decompositions i)

-- the set holds no record that is a composition pair, and behind the records' places a bit that is set only where rule 8 holds, and one only
-- where the index is made
pub record Unpaired (t : Table) (set : List ℕ) : Type 0 where
  pub size : length set ≡ known_words
  pub each : (i : ℕ) → i < pair_places → has set i ≡ true → is_pair_at t i ≡ false
  pub quick : has set pair_places ≡ true → QuickHolds t
  pub index : has set made_place ≡ true → Indexed t.decompositions set

-- whether b holds was asked, and the set is `set` then
pub record Asked (t : Table) (set : List ℕ) (b : Bool) (r : Bool) : Type 0 where
  pub is : r ≡ b
  pub unpaired : Unpaired t set
