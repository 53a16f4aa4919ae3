-- Rounds of single replacement of many codepoints at once. Of a list of codepoints two things are kept: for a window of codepoints the set
-- of those in it, and for each round the decomposition records that replace a codepoint of the list.
use Rattle.std.specs.Prelude.{ℕ, zero, suc, ◌+◌, ◌*◌, ◌<◌, ◌≡◌, Bool, not, ◌&&◌, cond, List, [], ◌∷◌, ◌++◌, map, length, get_or, take}
use Rattle.lists.specs.Lists.{any, mem}
use Rattle.table.specs.Table.{Headed, Group, Table}
use Rattle.table.specs.Lookup.{holds}
use Rattle.text.specs.Hangul.{is_syllable}
use Rattle.text.specs.Decomposition.{single, round}
use Rattle.soundness.specs.Valid.{group_characters}
use Rattle.bit_sets.specs.Sets.{has, window_words}

abbrev pub heads_of : List Headed → List ℕ
heads_of rs = map (λ (r : Headed). r.head) rs

-- some group holds c
abbrev pub in_groups : ℕ → List Group → Bool
in_groups c gs = any (λ (g : Group). holds g c) gs

-- the head and the items of the record i
abbrev pub head_at : List Headed → ℕ → ℕ
head_at rs i = get_or (heads_of rs) i 0

abbrev pub items_at : List Headed → ℕ → List ℕ
items_at rs i = get_or (map (λ (r : Headed). r.items) rs) i []

-- the record i is what replaces its head: no syllable's, and the first with this head
unfoldable pub replaces : List Headed → ℕ → Bool
replaces rs i = not (is_syllable (head_at rs i)) && not (mem (head_at rs i) (take i (heads_of rs)))

-- so many rounds
unfoldable pub after : ℕ → Table → List ℕ → List ℕ
unfolding round
after zero t s = s
after (suc k) t s = round t (after k t s)

-- the items of the records that are chosen, of those from the number i on
unfoldable pub chosen_items : (ℕ → Bool) → ℕ → List Headed → List ℕ
chosen_items m i [] = []
chosen_items m i (r ∷ rs) = let rest = chosen_items m (suc i) rs in cond (m i) (r.items ++ rest) rest

-- what a round makes of the codepoint at the place d of a window, if the set holds it and no record replaces it
unfoldable pub kept_at : Table → ℕ → List ℕ → List ℕ → ℕ → List ℕ
unfolding single has
kept_at t base from heads d =
    cond (has from d) (cond (is_syllable (base + d)) (single t (base + d)) (cond (has heads d) [] ((base + d) ∷ []))) []

-- the set of a window, of which the places pass the test
pub record WindowOf (set : List ℕ) (p : ℕ → Bool) : Type 0 where
  pub room : length set ≡ window_words
  pub each : (d : ℕ) → d < 0x10000 → has set d ≡ p d

-- it holds those codepoints of the list that are in the window
abbrev pub Holding : ℕ → List ℕ → List ℕ → Type 0
Holding base set s = WindowOf set (λ d. mem (base + d) s)

-- Chosen records, a bit for each: a row of 43,712 places for each round. A section has at most 43,690 records.
abbrev pub row_words : ℕ
row_words = 1366

abbrev pub row_places : ℕ
row_places = 43712

abbrev pub rows_words : ℕ
rows_words = 5464

-- the row k holds the records that replace a codepoint of the list
abbrev pub Chosen : List Headed → List ℕ → ℕ → List ℕ → Type 0
Chosen rs rows k s = (i : ℕ) → i < length rs → has rows (k * row_places + i) ≡ replaces rs i && mem (head_at rs i) s

-- rounds start with the heads of the decompositions or with the groups' characters: as a list, and as a test
unfoldable pub start_of : Table → Bool → List ℕ
unfolding group_characters
start_of t headed = cond headed (heads_of t.decompositions) (group_characters t)

unfoldable pub starting : Bool → List Headed → List Group → ℕ → Bool
starting headed rs gs c = cond headed (mem c (heads_of rs)) (in_groups c gs)
