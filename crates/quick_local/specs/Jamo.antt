-- Hangul on any table: a syllable's jamo have class 0 and compose to it again.
use Rattle.std.specs.Prelude.{ℕ, ◌+◌, ◌-◌, ◌*◌, ◌/◌, ◌%◌, ◌≤◌, ◌<◌, ◌≡◌, refl, Bool, true, false, ◌&&◌, ◌||◌, cond, List, [], ◌∷◌, leb, ltb, eqb}
use Rattle.std.proofs.Common.{arith, eqb-true, eq-eqb, leb-true, le-leb, lt-ltb}
use Rattle.std.proofs.lemmas.Bool.{false≢true, eqb-false, lt-leb}
use Rattle.std.proofs.Math.Option.{some}
use Rattle.lists.specs.Laws.{Every, both, both_left}
use Rattle.table.specs.Table.{Table}
use Rattle.text.specs.Hangul.{is_leading, is_vowel, is_trailing, is_jamo, is_syllable, is_open_syllable, jamo_of, hangul_pair}
use Rattle.text.specs.Decomposition.{class_of}
use Rattle.text.specs.Composition.{pair}
use Rattle.rule6_laws.specs.Stable.{below_syllables, jamo_low, syllable_number, leading_test, vowel_test, trailing_test}
use Rattle.quick_laws.specs.Own.{Takes}

-- jamo are no syllables
pub jamo_no_syllable : (c : ℕ) → is_jamo c ≡ true → is_syllable c ≡ false
jamo_no_syllable c h = below_syllables c (jamo_low c h)

-- a syllable goes to jamo
pub jamos : (s : ℕ) → s < 11172 → Every (λ x. is_jamo x ≡ true) (jamo_of s)
jamos s h = go (eqb (s % 28) 0) refl
  where
    l : is_jamo (0x1100 + s / 588) ≡ true
    l = rw (leading_test (0x1100 + s / 588) (omega arith) (omega arith))

    v : is_jamo (0x1161 + s % 588 / 28) ≡ true
    v = middle (is_leading (0x1161 + s % 588 / 28)) (is_vowel (0x1161 + s % 588 / 28)) (is_trailing (0x1161 + s % 588 / 28)) (vowel_test (0x1161 + s % 588 / 28) (omega arith) (omega arith))
      where
        middle : (a b c : Bool) → b ≡ true → (a || b || c) ≡ true
        middle true b c e = refl
        middle false true c e = refl
        middle false false c e = absurd (false≢true e)

    last : (a b c : Bool) → c ≡ true → (a || b || c) ≡ true
    last true b c e = refl
    last false true c e = refl
    last false false c e = e

    go : (b : Bool) → eqb (s % 28) 0 ≡ b
        → Every (λ x. is_jamo x ≡ true) (cond b ((0x1100 + s / 588) ∷ (0x1161 + s % 588 / 28) ∷ []) ((0x1100 + s / 588) ∷ (0x1161 + s % 588 / 28) ∷ (0x11A7 + s % 28) ∷ []))
    go true e = (l, (v, tt))
    go false e =
        let x = 0x11A7 + s % 28 in
        (l, (v, (last (is_leading x) (is_vowel x) (is_trailing x) (trailing_test x (omega (arith, eqb-false (s % 28) 0 e)) (omega arith)), tt)))

-- what a leading consonant and a vowel make, and an open syllable and a trailing consonant
open_pair : (a b h : ℕ) → is_leading a ≡ true → is_vowel b ≡ true → 0xAC00 + ((a - 0x1100) * 21 + (b - 0x1161)) * 28 ≡ h → hangul_pair a b ≡ some h
open_pair a b h l v e = rw (l, v, e)

closed_pair : (a b h : ℕ) → is_open_syllable a ≡ true → is_trailing b ≡ true → a + (b - 0x11A7) ≡ h → hangul_pair a b ≡ some h
closed_pair a b h o r e = rw (high, o, r, e)
  where
    s : is_syllable a ≡ true
    s = both_left (is_syllable a) (eqb ((a - 0xAC00) % 28) 0) o

    off : (x y : Bool) → y ≡ false → (x && y) ≡ false
    off true y q = q
    off false y q = refl

    low : is_leading a ≡ false
    low = off (leb 0x1100 a) (leb a 0x1112) (lt-leb a 0x1112 (omega (arith, leb-true 0xAC00 a (both_left (leb 0xAC00 a) (ltb a (0xAC00 + 11172)) s))))

    high : (is_leading a && is_vowel b) ≡ false
    high = rw low

open_test : (a : ℕ) → 0xAC00 ≤ a → a < 0xAC00 + 11172 → (a - 0xAC00) % 28 ≡ 0 → is_open_syllable a ≡ true
open_test a h k e =
    both (is_syllable a) (eqb ((a - 0xAC00) % 28) 0) (both (leb 0xAC00 a) (ltb a (0xAC00 + 11172)) (le-leb 0xAC00 a h) (lt-ltb a (0xAC00 + 11172) k)) (eq-eqb ((a - 0xAC00) % 28) 0 e)

module _ (t : Table) where
  pub jamo_starter : (c : ℕ) → is_jamo c ≡ true → class_of t c ≡ 0
  unfolding class_of
  jamo_starter c h = rw (jamo_no_syllable c h, h)

  hangul_first : (a b h : ℕ) → hangul_pair a b ≡ some h → pair t a b ≡ some h
  unfolding pair
  hangul_first a b h e = rw e

  -- the jamo of a syllable: the leading consonant takes in the others and is the syllable
  pub record Spelled (c : ℕ) : Type 0 where
    pub first : ℕ
    pub rest : List ℕ
    pub is : jamo_of (c - 0xAC00) ≡ first ∷ rest
    pub leading : is_leading first ≡ true
    pub takes : Takes t first rest c

  pub spelled : (c : ℕ) → is_syllable c ≡ true → Spelled c
  spelled c h = go (eqb (s % 28) 0) refl
    where
      s : ℕ
      s = c - 0xAC00

      l : ℕ
      l = 0x1100 + s / 588

      v : ℕ
      v = 0x1161 + s % 588 / 28

      r : ℕ
      r = 0x11A7 + s % 28

      o : ℕ
      o = 0xAC00 + (s / 588 * 21 + s % 588 / 28) * 28

      low : 0xAC00 ≤ c
      low = leb-true 0xAC00 c (both_left (leb 0xAC00 c) (ltb c (0xAC00 + 11172)) h)

      few : s < 11172
      few = syllable_number c h

      l_leading : is_leading l ≡ true
      l_leading = leading_test l (omega (arith, few)) (omega (arith, few))

      v_vowel : is_vowel v ≡ true
      v_vowel = vowel_test v (omega (arith, few)) (omega (arith, few))

      opens : pair t l v ≡ some o
      opens = hangul_first l v o (open_pair l v o l_leading v_vowel (omega arith))

      go : (b : Bool) → eqb (s % 28) 0 ≡ b → Spelled c
      go true e =
          let z : s % 28 ≡ 0 = eqb-true (s % 28) 0 e in
          let same : o ≡ c = omega (arith, z, low, few) in
          record { first = l; rest = v ∷ []; is = rw e; leading = l_leading; takes = (o, opens, same) }
      go false e =
          let z : (s % 28 ≡ 0) → ⊥ = eqb-false (s % 28) 0 e in
          let same : o + (r - 0x11A7) ≡ c = omega (arith, low, few) in
          let k : is_trailing r ≡ true = trailing_test r (omega (arith, z)) (omega arith) in
          let m : is_open_syllable o ≡ true = open_test o (omega arith) (omega (arith, few)) (omega arith) in
          record { first = l; rest = v ∷ r ∷ []; is = rw e; leading = l_leading; takes = (o, opens, (c, hangul_first o r c (closed_pair o r c m k same), refl)) }
