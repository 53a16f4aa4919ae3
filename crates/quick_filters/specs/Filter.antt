-- Filters: sets of 32,768 bits, three for each member. Where one of its bits is clear, a codepoint is no member.
use Rattle.std.specs.Prelude.{ℕ, ◌+◌, ◌*◌, ◌/◌, ◌%◌, ◌≤◌, ◌≡◌, Bool, true, false, ◌&&◌, List, length}
use Rattle.bit_sets.specs.Sets.{has}
use Rattle.halving.specs.Halving.{FirstCovers}

abbrev pub filter_words : ℕ
filter_words = 1024

-- Three bits of c: its low fifteen bits, moved on by the others; and twice a multiple of it, which strews neighbours. One that is no member seldom
-- has all three in common with members.
abbrev pub place_of : ℕ → ℕ
place_of c = (c % 32768 + c / 32768 * 12345) % 32768

abbrev pub scattered : ℕ → ℕ → ℕ → ℕ
scattered low high c = (c % 65536 * low + c / 65536 * high) % 65536 / 2

abbrev pub strewn_of : ℕ → ℕ
strewn_of = scattered 40503 10007

abbrev pub last_of : ℕ → ℕ
last_of = scattered 25717 18211

-- c may be a member
unfoldable pub holds : List ℕ → ℕ → Bool
holds set c = has set (place_of c) && has set (strewn_of c) && has set (last_of c)

-- members were put into a filter, and none went
pub record Grown (old new : List ℕ) : Type 0 where
  pub room : length new ≡ length old
  pub kept : (c : ℕ) → holds old c ≡ true → holds new c ≡ true

pub record Noted (old new : List ℕ) (c : ℕ) : Type 0 where
  pub grown : Grown old new
  pub here : holds new c ≡ true

pub record RunNoted (old new : List ℕ) (from to : ℕ) : Type 0 where
  pub grown : Grown old new
  pub each : (c : ℕ) → from ≤ c → c ≤ to → holds new c ≡ true

-- a lookup that asks one entry after another finds nothing for a codepoint that is no member
pub record Skips (step last : ℕ) (ws filter : List ℕ) : Type 0 where
  pub none : (c : ℕ) (f : List ℕ → Bool) (z : Bool) (found : List ℕ → ℕ → Bool) → FirstCovers step last c f z found → holds filter c ≡ false → f ws ≡ z

pub record RunsNoted (step last : ℕ) (ws old new : List ℕ) (r : Bool) : Type 0 where
  pub grown : Grown old new
  pub skips : r ≡ true → Skips step last ws new
