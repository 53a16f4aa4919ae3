-- Rounds of single replacement, counted, and what the code that does them answers.
use Rattle.std.specs.Prelude.{ℕ, zero, suc, ◌+◌, ◌*◌, ◌≤◌, ◌<◌, ◌≡◌, List, [], ◌∷◌, length, take}
use Rattle.std.proofs.lemmas.List.Edits.{sets}
use Rattle.table.specs.Table.{Table}
use Rattle.table.specs.Spans.{within, Fits}
use Rattle.decomposition.specs.declared.Parts.{Parts}
use Rattle.decomposition.specs.declared.Replacement.{Replacement}
use Rattle.decomposition.specs.declared.Replacement.TheVariants.{Itself, Items, Jamo}
use Rattle.text.specs.Hangul.{syllable_count, jamo_of}
use Rattle.text.specs.Decomposition.{single, round, four_rounds}

-- n rounds
unfoldable pub rounds : ℕ → Table → List ℕ → List ℕ
unfolding round
rounds zero t s = s
rounds (suc n) t s = rounds n t (round t s)

-- the most codepoints that n rounds make of one, where a record has at most four items
unfoldable pub most_from : ℕ → ℕ
most_from zero = 1
most_from (suc n) = 4 * most_from n

-- s written into the list from the place `at` on, as far as there is room
abbrev pub placed : List ℕ → ℕ → List ℕ → List ℕ
placed = sets

-- s is written into `out` from the place `at` on, as far as there is room, and r is the place behind it, in `out` or past its end
pub record Appended (out out' : List ℕ) (at : ℕ) (s : List ℕ) (r : ℕ) : Type 0 where
  pub put : out' ≡ placed out at s
  pub end : r ≡ at + length s

-- the codepoints that a replacement puts, none where the codepoint stays
abbrev pub items_by : List ℕ → Replacement → List ℕ
items_by ws Itself = []
items_by ws (Items s) = within s ws
items_by ws (Jamo s) = jamo_of s

-- they lie within the words, or there is such a syllable
abbrev pub ByFits : List ℕ → Replacement → Type 0
ByFits ws Itself = Unit {0}
ByFits ws (Items s) = Fits ws s
ByFits ws (Jamo s) = s < syllable_count

-- c itself where nothing is put in its place
abbrev pub or_itself : ℕ → List ℕ → List ℕ
or_itself c [] = c ∷ []
or_itself c (x ∷ xs) = x ∷ xs

-- what a single replacement of c puts, at most four
pub record ReplacedBy (t : Table) (ws : List ℕ) (c : ℕ) (r : Replacement) : Type 0 where
  pub is : or_itself c (items_by ws r) ≡ single t c
  pub few : length (items_by ws r) ≤ 4
  pub fits : ByFits ws r

-- the parts are this list, of at most four
pub record PartsAre (s : List ℕ) (r : Parts) : Type 0 where
  pub is : take r.count r.items ≡ s
  pub few : r.count ≤ 4
  pub whole : length r.items ≡ 4

-- c with n rounds is written into `out` from the place `at` on, as far as there is room, and r is the place behind it
pub record Expanded (t : Table) (n c : ℕ) (out out' : List ℕ) (at r : ℕ) : Type 0 where
  pub written : Appended out out' at (rounds n t (c ∷ [])) r
  pub few : length (rounds n t (c ∷ [])) ≤ most_from n

-- the four rounds of c are written into `out` from the place `at` on, as far as there is room, and r is the place behind them
pub record Decomposed (t : Table) (c : ℕ) (out out' : List ℕ) (at r : ℕ) : Type 0 where
  pub written : Appended out out' at (four_rounds t (c ∷ [])) r
  pub few : r ≤ at + 256
