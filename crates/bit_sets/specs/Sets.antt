-- Sets of places, a bit for each, 32 in a word; and windows of codepoints.
use Rattle.std.specs.Prelude.{ℕ, zero, suc, ◌+◌, ◌*◌, ◌/◌, ◌%◌, ◌<◌, ◌≤◌, ◌≡◌, Bool, ◌||◌, List, length, get_or, leb, ltb, eqb}

-- the bit at the place k, counted from the lowest
unfoldable pub bit : ℕ → ℕ → Bool
bit zero w = eqb (w % 2) 1
bit (suc k) w = bit k (w / 2)

-- the set holds the place d
unfoldable pub has : List ℕ → ℕ → Bool
unfolding bit
has set d = bit (d % 32) (get_or set (d / 32) 0)

-- the set holds the places that pass the test
pub record SetOf (set : List ℕ) (p : ℕ → Bool) : Type 0 where
  pub each : (d : ℕ) → d < length set * 32 → has set d ≡ p d

-- the places that pass the test were put into the set
pub record Put (old new : List ℕ) (p : ℕ → Bool) : Type 0 where
  pub room : length new ≡ length old
  pub each : (d : ℕ) → d < length old * 32 → has new d ≡ p d || has old d

-- the words of a window's set: it has a place for each of 10000 codepoints (hexadecimal)
abbrev pub window_words : ℕ
window_words = 2048

-- the places of a window of codepoints from `base` on, at least `first`, and at most `last`
pub record LowEnd (base first r : ℕ) : Type 0 where
  pub inside : r ≤ 0x10000
  pub same : (d : ℕ) → d < 0x10000 → leb first (base + d) ≡ leb r d

pub record HighEnd (base last r : ℕ) : Type 0 where
  pub inside : r ≤ 0x10000
  pub same : (d : ℕ) → d < 0x10000 → leb (base + d) last ≡ ltb d r
