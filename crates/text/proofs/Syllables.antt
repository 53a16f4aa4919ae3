-- What the tests on Hangul say of a codepoint's range.
use Prim.Native.Nat.{ℕ, ◌≤◌, ◌<◌, ◌-◌, ◌%◌}
use mathlib.Core.Path.{◌≡◌}
use mathlib.Core.Bool.{true, ◌&&◌}
use lib.Dec.{leb, ltb, eqb}
use borrow.Author.Tests.{leb-true, ltb-true}
use Rattle.text.specs.Hangul.{is_leading, is_vowel, is_trailing, is_syllable, is_open_syllable}
use Rattle.text.proofs.Bools.{and_left, and_right}

pub record IsSyllable (c : ℕ) : Type 0 where
  pub low : 0xAC00 ≤ c
  pub high : c < 55204

pub syllable : (c : ℕ) → is_syllable c ≡ true → IsSyllable c
syllable c e =
    record { low = leb-true 0xAC00 c (and_left (leb 0xAC00 c) (ltb c 55204) e); high = ltb-true c 55204 (and_right (leb 0xAC00 c) (ltb c 55204) e) }

-- c lies from a to b
record Between (a b c : ℕ) : Type 0 where
  low : a ≤ c
  high : c ≤ b

between : (a b c : ℕ) → (leb a c && leb c b) ≡ true → Between a b c
between a b c e = record { low = leb-true a c (and_left (leb a c) (leb c b) e); high = leb-true c b (and_right (leb a c) (leb c b) e) }

-- a leading consonant and a vowel
pub record Open (a b : ℕ) : Type 0 where
  pub a_low : 0x1100 ≤ a
  pub a_high : a ≤ 0x1112
  pub b_low : 0x1161 ≤ b
  pub b_high : b ≤ 0x1175

pub open_parts : (a b : ℕ) → (is_leading a && is_vowel b) ≡ true → Open a b
open_parts a b e =
    let l = between 0x1100 0x1112 a (and_left (is_leading a) (is_vowel b) e) in
    let v = between 0x1161 0x1175 b (and_right (is_leading a) (is_vowel b) e) in
    record { a_low = l.low; a_high = l.high; b_low = v.low; b_high = v.high }

-- an open syllable and a trailing consonant
pub record Closed (a b : ℕ) : Type 0 where
  pub a_high : a < 55204
  pub b_low : 0x11A8 ≤ b
  pub b_high : b ≤ 0x11C2

pub closed_parts : (a b : ℕ) → (is_open_syllable a && is_trailing b) ≡ true → Closed a b
closed_parts a b e =
    let s = syllable a (and_left (is_syllable a) (eqb ((a - 0xAC00) % 28) 0) (and_left (is_open_syllable a) (is_trailing b) e)) in
    let t = between 0x11A8 0x11C2 b (and_right (is_open_syllable a) (is_trailing b) e) in
    record { a_high = s.high; b_low = t.low; b_high = t.high }
