-- Laws of the words of a set, 32 places each: what a round keeps of a whole word.
use Prim.Native.Nat.{ℕ, zero, suc, ◌+◌, ◌*◌, ◌/◌, ◌%◌, ◌^◌, ◌<◌, ◌≤◌}
use native.Mathlib.Omega.{arith}
use mathlib.Core.Path.{◌≡◌, refl, sym, ◌∙◌, ap, ap₂}
use mathlib.Core.Bool.{Bool, true, false, ◌&&◌, ◌||◌}
use mathlib.Core.List.{List, [], ◌∷◌}
use lib.ListN.{length, get_or, set, length-set}
use lib.Seq.{get_or-set_same, get_or-set_other}
use lib.Bits.{bit_or, or_shr, or_mod}
use lib.Dec.{leb, ltb, eqb}
use borrow.Author.Tests.{eq-eqb, eqb-true, eqb-false, le-leb, lt-ltb, leb-true, ltb-true}
use Rattle.lists.specs.Lists.{mem, joined_map}
use Rattle.lists.specs.Laws.{both, both_left, both_right}
use Rattle.lists.specs.Tests.{agree, not_so, never}
use Rattle.table.specs.Table.{Table}
use Rattle.text.specs.Hangul.{is_syllable}
use Rattle.soundness.specs.Valid.{counted_from}
use Rattle.bit_sets.specs.Sets.{bit, has, Put}
use Rattle.bit_sets.proofs.BitLaws.{bit_shifted, bit-none}
use Rattle.sound_choices.specs.Rounds.{kept_at}
use Rattle.sound_choices.proofs.RoundLaws.{or_left, joined_here, joined_from, mem-counted, kept-none, kept-plain}

-- the bits of two words put together
low_or : (x y : ℕ) → x < 2 → y < 2 → eqb (bit_or x y) 1 ≡ eqb y 1 || eqb x 1
low_or zero zero h k = refl
low_or zero (suc zero) h k = refl
low_or zero (suc (suc y)) h k = absurd (omega arith)
low_or (suc zero) zero h k = refl
low_or (suc zero) (suc zero) h k = refl
low_or (suc zero) (suc (suc y)) h k = absurd (omega arith)
low_or (suc (suc x)) y h k = absurd (omega arith)

pub bit_or_lem : (k a b : ℕ) → bit k (bit_or a b) ≡ bit k b || bit k a
bit_or_lem k a b =
    sym (bit_shifted k (bit_or a b))
    ∙ ap (λ (x : ℕ). eqb (x % 2) 1) (or_shr a b k)
    ∙ ap (λ (x : ℕ). eqb x 1) (or_mod (a / 2 ^ k) (b / 2 ^ k) 1)
    ∙ low_or (a / 2 ^ k % 2) (b / 2 ^ k % 2) (omega arith) (omega arith)
    ∙ ap₂ (λ (x y : Bool). x || y) (bit_shifted k b) (bit_shifted k a)

-- the places of a word that is 0
pub word_none : (s : List ℕ) (i d : ℕ) → get_or s i 0 ≡ 0 → d / 32 ≡ i → has s d ≡ false
unfolding has
word_none s i d e f = rw (f, e) (bit-none (d % 32))

-- the places of two words put together
pub word_both : (a b c : List ℕ) (i d : ℕ) → get_or a i 0 ≡ bit_or (get_or b i 0) (get_or c i 0) → d / 32 ≡ i → has a d ≡ has c d || has b d
unfolding has
word_both a b c i d e f = rw (f, e) (bit_or_lem (d % 32) (get_or b i 0) (get_or c i 0))

-- a word of one set put into another
pub put_or : (s from : List ℕ) (i : ℕ) → i < length s → Put s (set s i (bit_or (get_or s i 0) (get_or from i 0))) (λ d. eqb (d / 32) i && has from d)
unfolding has
put_or s from i h = record { room = length-set s i _; each = λ d k. go d (eqb (d / 32) i) refl }
  where
    go : (d : ℕ) (b : Bool) → eqb (d / 32) i ≡ b
        → bit (d % 32) (get_or (set s i (bit_or (get_or s i 0) (get_or from i 0))) (d / 32) 0) ≡ b && bit (d % 32) (get_or from (d / 32) 0) || bit
        (d % 32) (get_or s (d / 32) 0)
    go d true e =
        let f : d / 32 ≡ i = eqb-true _ _ e in
        rw (f, get_or-set_same s i (bit_or (get_or s i 0) (get_or from i 0)) 0 h) (bit_or_lem (d % 32) (get_or s i 0) (get_or from i 0))
    go d false e = ap (bit (d % 32)) (get_or-set_other s i (d / 32) (bit_or (get_or s i 0) (get_or from i 0)) 0 (eqb-false _ _ e))

-- the places of the word i, as numbers from its first on
word-run : (d i : ℕ) → d / 32 ≡ i → mem d (counted_from (i * 32) 32) ≡ true
word-run d i e =
    mem-counted d (i * 32) 32
    ∙ both (leb (i * 32) d) (ltb d (i * 32 + 32)) (le-leb (i * 32) d (omega arith)) (lt-ltb d (i * 32 + 32) (omega arith))

run-word : (d i : ℕ) → mem d (counted_from (i * 32) 32) ≡ true → d / 32 ≡ i
run-word d i e =
    let f : (leb (i * 32) d && ltb d (i * 32 + 32)) ≡ true = sym (mem-counted d (i * 32) 32) ∙ e in
    within (leb-true _ _ (both_left (leb (i * 32) d) (ltb d (i * 32 + 32)) f)) (ltb-true _ _ (both_right (leb (i * 32) d) (ltb d (i * 32 + 32)) f))
  where
    within : i * 32 ≤ d → d < i * 32 + 32 → d / 32 ≡ i
    within a b = omega arith

-- what a round keeps of the word i
module _ (t : Table) (base : ℕ) (from heads : List ℕ) (i : ℕ) where
  -- nothing where it is 0
  pub kept_empty : get_or from i 0 ≡ 0 → (e : ℕ) → mem (base + e) (joined_map (kept_at t base from heads) (counted_from (i * 32) 32)) ≡ false
  kept_empty z e =
      not_so _ (λ m. joined_from (kept_at t base from heads) (base + e) (counted_from (i * 32) 32) m (λ x k j. never _ j (ap (mem (base + e))
      (kept-none t base from heads x (word_none from i x z (run-word x i k))))))

  -- all of it where no record and no syllable is met
  pub kept_whole : ((d : ℕ) → d / 32 ≡ i → has heads d ≡ false) → ((d : ℕ) → d / 32 ≡ i → is_syllable (base + d) ≡ false) → (e : ℕ)
      → (eqb (e / 32) i && has from e) ≡ mem (base + e) (joined_map (kept_at t base from heads) (counted_from (i * 32) 32))
  kept_whole hs ss e = agree _ _ there back
    where
      one : (x : ℕ) → x / 32 ≡ i → has from x ≡ true → kept_at t base from heads x ≡ (base + x) ∷ []
      one x k f = kept-plain t base from heads x f (ss x k) (hs x k)

      there : (eqb (e / 32) i && has from e) ≡ true → mem (base + e) (joined_map (kept_at t base from heads) (counted_from (i * 32) 32)) ≡ true
      there m =
          let k : e / 32 ≡ i = eqb-true _ _ (both_left (eqb (e / 32) i) (has from e) m) in
          let f : has from e ≡ true = both_right (eqb (e / 32) i) (has from e) m in
          joined_here (kept_at t base from heads) (base + e) e (counted_from (i * 32) 32) (word-run e i k)
          (ap (mem (base + e)) (one e k f) ∙ or_left (eqb (base + e) (base + e)) false (eq-eqb (base + e) (base + e) refl))

      back : mem (base + e) (joined_map (kept_at t base from heads) (counted_from (i * 32) 32)) ≡ true → (eqb (e / 32) i && has from e) ≡ true
      back m = joined_from (kept_at t base from heads) (base + e) (counted_from (i * 32) 32) m (λ x k j. at x (run-word x i k) j (has from x) refl)
        where
          at : (x : ℕ) → x / 32 ≡ i → mem (base + e) (kept_at t base from heads x) ≡ true → (b : Bool) → has from x ≡ b
              → (eqb (e / 32) i && has from e) ≡ true
          at x k j false f = never _ j (ap (mem (base + e)) (kept-none t base from heads x f))
          at x k j true f =
              let q : (eqb (base + e) (base + x) || false) ≡ true = sym (ap (mem (base + e)) (one x k f)) ∙ j in
              let z : e ≡ x = same_place x (eqb (base + e) (base + x)) refl q in
              both (eqb (e / 32) i) (has from e) (rw z (eq-eqb (x / 32) i k)) (rw z f)
            where
              same_place : (x : ℕ) (b : Bool) → eqb (base + e) (base + x) ≡ b → (b || false) ≡ true → e ≡ x
              same_place x true p q = let w : base + e ≡ base + x = eqb-true _ _ p in omega arith
              same_place x false p q = never _ q refl
