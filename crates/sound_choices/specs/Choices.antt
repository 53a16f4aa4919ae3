-- Choosing decomposition records, window by window.
use Rattle.std.specs.Prelude.{ℕ, ◌+◌, ◌-◌, ◌<◌, ◌≡◌, Bool, not, ◌&&◌, List, length, leb, ltb, eqb}
use Rattle.table.specs.Table.{Headed}
use Rattle.text.specs.Hangul.{is_syllable}
use Rattle.bit_sets.specs.Sets.{has, Put, window_words}
use Rattle.sound_choices.specs.Rounds.{head_at, replaces, row_words}

-- a codepoint up to 10FFFF
abbrev pub is_point : ℕ → Bool
is_point c = ltb c 0x110000

-- c is in the window of 10000 codepoints from base on
unfoldable pub in_window : ℕ → ℕ → Bool
in_window base c = leb base c && ltb (c - base) 0x10000

-- the head h of the record i joins those seen in the window; the record is chosen if the head was not there and is no syllable
unfoldable pub new_head : ℕ → ℕ → List ℕ → Bool
unfolding in_window has
new_head base h seen = in_window base h && not (is_syllable h) && not (has seen (h - base))

pub record Seen (base h i : ℕ) (seen seen' first first' : List ℕ) : Type 0 where
  pub heads : Put seen seen' (λ d. eqb (base + d) h)
  pub firsts : Put first first' (λ j. eqb j i && new_head base h seen)

-- a test of records, as one of the places of a row
unfoldable pub row_of : ℕ → List Headed → (ℕ → Bool) → ℕ → Bool
row_of row rs test e = leb row e && ltb e (row + length rs) && test (e - row)

-- the record i replaces its head, and that is in the window
unfoldable pub first_in : ℕ → List Headed → ℕ → Bool
unfolding in_window replaces
first_in base rs i = in_window base (head_at rs i) && replaces rs i

-- those records are chosen
pub record FirstsIn (base : ℕ) (rs : List Headed) (first first' seen : List ℕ) : Type 0 where
  pub put : Put first first' (row_of 0 rs (first_in base rs))
  pub room : length seen ≡ window_words

-- the set holds the records that replace their heads
pub record FirstSet (rs : List Headed) (first : List ℕ) : Type 0 where
  pub room : length first ≡ row_words
  pub each : (i : ℕ) → i < length rs → has first i ≡ replaces rs i

pub record FirstFound (rs : List Headed) (first seen : List ℕ) : Type 0 where
  pub set : FirstSet rs first
  pub room : length seen ≡ window_words

-- the head h of the record i is in the window and in its set, and the record replaces it
unfoldable pub chooses_in : ℕ → ℕ → ℕ → List ℕ → List ℕ → Bool
unfolding in_window has
chooses_in base h i first set = in_window base h && has first i && has set (h - base)
