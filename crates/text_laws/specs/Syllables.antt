-- Hangul composition and decomposition undo each other.
use Rattle.std.specs.Prelude.{ℕ, ◌+◌, ◌-◌, ◌*◌, ◌/◌, ◌%◌, ◌≤◌, ◌<◌, ◌≡◌, refl, Bool, true, false, ◌&&◌, [], ◌∷◌, ◌++◌, ◌⊎◌, leb, ltb, eqb}
use Rattle.std.proofs.Common.{arith, ap, ◌∙◌, inl, inr, eqb-true, eq-eqb, ne_eqb, leb-true, ltb-true, le-leb, lt-ltb}
use Rattle.std.proofs.Math.Option.{some, none-ne-some, some-injective}
use Rattle.lists.specs.Laws.{both, both_left, both_right}
use Rattle.text.specs.Hangul.{is_leading, is_vowel, is_trailing, is_syllable, is_open_syllable, jamo_of, hangul_pair}

-- the jamo of a syllable of two, and of three
jamo_two : (s l v : ℕ) → s % 28 ≡ 0 → 0x1100 + s / 588 ≡ l → 0x1161 + s % 588 / 28 ≡ v → jamo_of s ≡ l ∷ v ∷ []
jamo_two s l v z e f = rw (eq-eqb (s % 28) 0 z, e, f)

jamo_three : (s l v r : ℕ) → (s % 28 ≡ 0 → ⊥) → 0x1100 + s / 588 ≡ l → 0x1161 + s % 588 / 28 ≡ v → 0x11A7 + s % 28 ≡ r → jamo_of s ≡ l ∷ v ∷ r ∷ []
jamo_three s l v r z e f g = rw (ne_eqb (s % 28) 0 z, e, f, g)

-- a leading consonant and a vowel make a syllable that has them for its jamo
pub two_jamo : (x y : ℕ) → x < 19 → y < 21 → jamo_of ((x * 21 + y) * 28) ≡ (0x1100 + x) ∷ (0x1161 + y) ∷ []
two_jamo x y hx hy = jamo_two ((x * 21 + y) * 28) (0x1100 + x) (0x1161 + y) (omega arith) (omega arith) (omega arith)

-- an open syllable and a trailing consonant make a syllable that has the jamo of both
pub three_jamo : (s z : ℕ) → s % 28 ≡ 0 → 0 < z → z < 28 → jamo_of (s + z) ≡ (0x1100 + s / 588) ∷ (0x1161 + s % 588 / 28) ∷ (0x11A7 + z) ∷ []
three_jamo s z e h k = jamo_three (s + z) (0x1100 + s / 588) (0x1161 + s % 588 / 28) (0x11A7 + z) (omega arith) (omega arith) (omega arith) (omega arith)

-- a leading consonant and a vowel that make h
pub record MakesTwo (a b h : ℕ) : Type 0 where
  pub leading : is_leading a ≡ true
  pub vowel : is_vowel b ≡ true
  pub syllable : is_syllable h ≡ true
  pub jamo : jamo_of (h - 0xAC00) ≡ a ∷ b ∷ []

-- an open syllable and a trailing consonant that make h
pub record MakesThree (a b h : ℕ) : Type 0 where
  pub before : is_syllable a ≡ true
  pub trailing : is_trailing b ≡ true
  pub syllable : is_syllable h ≡ true
  pub jamo : jamo_of (h - 0xAC00) ≡ jamo_of (a - 0xAC00) ++ b ∷ []

syllable_test : (c : ℕ) → 0xAC00 ≤ c → c < 0xAC00 + 11172 → is_syllable c ≡ true
syllable_test c h k = both (leb 0xAC00 c) (ltb c (0xAC00 + 11172)) (le-leb 0xAC00 c h) (lt-ltb c (0xAC00 + 11172) k)

makes_two : (a b : ℕ) → is_leading a ≡ true → is_vowel b ≡ true → MakesTwo a b (0xAC00 + ((a - 0x1100) * 21 + (b - 0x1161)) * 28)
makes_two a b l v =
    let a₁ : 0x1100 ≤ a = leb-true 0x1100 a (both_left (leb 0x1100 a) (leb a 0x1112) l) in
    let a₂ : a ≤ 0x1112 = leb-true a 0x1112 (both_right (leb 0x1100 a) (leb a 0x1112) l) in
    let b₁ : 0x1161 ≤ b = leb-true 0x1161 b (both_left (leb 0x1161 b) (leb b 0x1175) v) in
    let b₂ : b ≤ 0x1175 = leb-true b 0x1175 (both_right (leb 0x1161 b) (leb b 0x1175) v) in
    let n : 0xAC00 + ((a - 0x1100) * 21 + (b - 0x1161)) * 28 - 0xAC00 ≡ ((a - 0x1100) * 21 + (b - 0x1161)) * 28 = omega arith in
    let x : 0x1100 + (a - 0x1100) ≡ a = omega arith in
    let y : 0x1161 + (b - 0x1161) ≡ b = omega arith in
    record {
      leading = l;
      vowel = v;
      syllable = syllable_test (0xAC00 + ((a - 0x1100) * 21 + (b - 0x1161)) * 28) (omega arith) (omega arith);
      jamo = ap jamo_of n ∙ two_jamo (a - 0x1100) (b - 0x1161) (omega arith) (omega arith) ∙ rw (x, y);
    }

makes_three : (a b : ℕ) → is_open_syllable a ≡ true → is_trailing b ≡ true → MakesThree a b (a + (b - 0x11A7))
makes_three a b o r =
    let s : is_syllable a ≡ true = both_left (is_syllable a) (eqb ((a - 0xAC00) % 28) 0) o in
    let z : (a - 0xAC00) % 28 ≡ 0 = eqb-true ((a - 0xAC00) % 28) 0 (both_right (is_syllable a) (eqb ((a - 0xAC00) % 28) 0) o) in
    let a₁ : 0xAC00 ≤ a = leb-true 0xAC00 a (both_left (leb 0xAC00 a) (ltb a (0xAC00 + 11172)) s) in
    let a₂ : a < 0xAC00 + 11172 = ltb-true a (0xAC00 + 11172) (both_right (leb 0xAC00 a) (ltb a (0xAC00 + 11172)) s) in
    let b₁ : 0x11A8 ≤ b = leb-true 0x11A8 b (both_left (leb 0x11A8 b) (leb b 0x11C2) r) in
    let b₂ : b ≤ 0x11C2 = leb-true b 0x11C2 (both_right (leb 0x11A8 b) (leb b 0x11C2) r) in
    let n : a + (b - 0x11A7) - 0xAC00 ≡ (a - 0xAC00) + (b - 0x11A7) = omega arith in
    let y : 0x11A7 + (b - 0x11A7) ≡ b = omega arith in
    let parts : jamo_of (a - 0xAC00) ≡ (0x1100 + (a - 0xAC00) / 588) ∷ (0x1161 + (a - 0xAC00) % 588 / 28) ∷ [] = jamo_two (a - 0xAC00) (0x1100 + (a - 0xAC00) / 588) (0x1161 + (a - 0xAC00) % 588 / 28) z refl refl in
    record {
      before = s;
      trailing = r;
      syllable = syllable_test (a + (b - 0x11A7)) (omega arith) (omega arith);
      jamo = ap jamo_of n ∙ three_jamo (a - 0xAC00) (b - 0x11A7) z (omega arith) (omega arith) ∙ rw (parts, y);
    }

-- a Hangul pair is one of the two
pub hangul_pair_lem : (a b h : ℕ) → hangul_pair a b ≡ some h → MakesTwo a b h ⊎ MakesThree a b h
hangul_pair_lem a b h e = go (is_leading a && is_vowel b) refl (is_open_syllable a && is_trailing b) refl
  where
    two : ℕ
    two = 0xAC00 + ((a - 0x1100) * 21 + (b - 0x1161)) * 28

    go : (p : Bool) → (is_leading a && is_vowel b) ≡ p → (q : Bool) → (is_open_syllable a && is_trailing b) ≡ q → MakesTwo a b h ⊎ MakesThree a b h
    go true f q g =
        let n : two ≡ h = some-injective two h (rw f at e) in
        inl (rw n at (makes_two a b (both_left (is_leading a) (is_vowel b) f) (both_right (is_leading a) (is_vowel b) f)))
    go false f true g =
        let n : a + (b - 0x11A7) ≡ h = some-injective (a + (b - 0x11A7)) h (rw (f, g) at e) in
        inr (rw n at (makes_three a b (both_left (is_open_syllable a) (is_trailing b) g) (both_right (is_open_syllable a) (is_trailing b) g)))
    go false f false g = absurd (none-ne-some h (rw (f, g) at e))
