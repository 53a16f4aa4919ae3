-- Laws of rule 7, record by record.
use Prim.Native.Nat.{ℕ, suc, ◌+◌, ◌<◌, ◌≤◌}
use native.Mathlib.Omega.{arith}
use mathlib.Core.Path.{◌≡◌, refl, ◌∙◌, ap}
use mathlib.Core.Bool.{Bool, true, false, not, ◌&&◌, ◌||◌, cond}
use mathlib.Core.List.{List, [], ◌∷◌, map}
use mathlib.Core.Option.{none, some}
use lib.ListN.{length, get_or, drop, drop_of_length-le}
use lib.Dec.{eqb}
use borrow.Author.Tests.{eq-eqb, ne_eqb}
use Rattle.lists.specs.Lists.{any, keep, mem, is_some, same_list, distinct_lists}
use Rattle.lists.specs.Tests.{any-map}
use Rattle.table.specs.Table.{Headed, Table}
use Rattle.table.proofs.Lookups.{drop-next}
use Rattle.text.specs.Hangul.{is_leading, is_vowel, is_open_syllable, is_trailing}
use Rattle.text.specs.Decomposition.{class_of}
use Rattle.text.specs.Composition.{is_pair, is_two, first_item, pairs}
use Rattle.soundness.specs.Pairs.{is_hangul_pair, rule7}
use Rattle.sound_parts.specs.Parts.{record_of}
use Rattle.rule_7.specs.Pairs.{pair_of, same_pair, same_pair_in, pair_fits, pairs_fit}

-- two items, or another number of them
pub not_two : (s : List ℕ) → (length s ≡ 2 → ⊥) → is_two s ≡ false
not_two [] h = refl
not_two (a ∷ []) h = refl
not_two (a ∷ b ∷ []) h = absurd (h refl)
not_two (a ∷ b ∷ c ∷ s) h = refl

pub are_two : (s : List ℕ) → length s ≡ 2 → is_two s ≡ true
are_two [] h = absurd (omega arith)
are_two (a ∷ []) h = absurd (omega arith)
are_two (a ∷ b ∷ []) h = refl
are_two (a ∷ b ∷ c ∷ s) h = absurd (omega arith)

pub first_is : (s : List ℕ) → length s ≡ 2 → first_item s ≡ get_or s 0 0
first_is [] h = refl
first_is (a ∷ s) h = refl

-- the test of a composition pair
module _ (t : Table) (h : ℕ) (s : List ℕ) where
  pub pair_not_two : (length s ≡ 2 → ⊥) → false ≡ pair_of t h s
  unfolding pair_of
  pair_not_two e = rw (not_two s e)

  module _ (two : length s ≡ 2) where
    pub pair-excluded : mem h t.exclusions ≡ true → false ≡ pair_of t h s
    unfolding pair_of
    pair-excluded e = rw (are_two s two, e)

    module _ (e : mem h t.exclusions ≡ false) where
      pub pair_head : (class_of t h ≡ 0 → ⊥) → false ≡ pair_of t h s
      unfolding pair_of
      pair_head f = rw (are_two s two, e, ne_eqb (class_of t h) 0 f)

      pub pair-first : (k : ℕ) → class_of t h ≡ 0 → k ≡ class_of t (get_or s 0 0) → eqb k 0 ≡ pair_of t h s
      unfolding pair_of
      pair-first k f g = rw (are_two s two, e, eq-eqb (class_of t h) 0 f, first_is s two, g)

-- lists of different lengths
pub differ_length : (a b : List ℕ) → (length a ≡ length b → ⊥) → false ≡ same_list a b
differ_length [] [] h = absurd (h refl)
differ_length [] (y ∷ b) h = refl
differ_length (x ∷ a) [] h = refl
differ_length (x ∷ a) (y ∷ b) h = go (eqb x y) (differ_length a b (λ e. h (ap suc e)))
  where
    go : (t : Bool) → false ≡ same_list a b → false ≡ t && same_list a b
    go true e = e
    go false e = refl

-- a Hangul pair, by its first two items
pub hangul_short : (s : List ℕ) → length s < 2 → false ≡ is_hangul_pair s
hangul_short [] h = refl
hangul_short (a ∷ []) h = refl
hangul_short (a ∷ b ∷ s) h = absurd (omega arith)

hangul_some : (x y : Bool) (a b : ℕ) → is_some (cond x (some a) (cond y (some b) none)) ≡ x || y
hangul_some true y a b = refl
hangul_some false true a b = refl
hangul_some false false a b = refl

pub hangul_two : (s : List ℕ) → 2 ≤ length s →
    is_hangul_pair s ≡ is_leading (get_or s 0 0) && is_vowel (get_or s 1 0) || is_open_syllable (get_or s 0 0) && is_trailing (get_or s 1 0)
hangul_two [] h = absurd (omega arith)
hangul_two (a ∷ []) h = absurd (omega arith)
hangul_two (a ∷ b ∷ s) h = hangul_some (is_leading a && is_vowel b) (is_open_syllable a && is_trailing b) _ _

-- what is asked of the kept elements is asked of those that are kept
and_true : (a : Bool) → a && true ≡ a
and_true true = refl
and_true false = refl

and_false : (a : Bool) → a && false ≡ false
and_false true = refl
and_false false = refl

pub any-keep : {A : Type 0} (p q : A → Bool) (xs : List A) → any p (keep q xs) ≡ any (λ x. p x && q x) xs
any-keep p q [] = refl
any-keep {A} p q (x ∷ xs) = go (q x) (any-keep p q xs)
  where
    go : (b : Bool) → any p (keep q xs) ≡ any (λ x. p x && q x) xs → any p (cond b (x ∷ keep q xs) (keep q xs)) ≡ (p x && b) || any (λ x. p x && q x) xs
    go true e = rw (and_true (p x), e)
    go false e = rw (and_false (p x), e)

-- the later pairs with these items
later_pairs : (t : Table) (s : List ℕ) (rs : List Headed) → any (same_list s) (map (λ (r : Headed). r.items) (keep (is_pair t) rs)) ≡ any (same_pair_in t s) rs
unfolding same_pair pair_of
later_pairs t s rs = any-map (same_list s) (λ (r : Headed). r.items) (keep (is_pair t) rs) ∙ any-keep (λ (r : Headed). same_list s r.items) (is_pair t) rs

-- the first record, and the later ones
module _ (t : Table) (h : ℕ) (s : List ℕ) (later : List Headed) where
  fits_step : (p y g : Bool) → is_pair t (record_of h s) ≡ p → any (same_pair_in t s) later ≡ y → is_hangul_pair s ≡ g
      → pairs_fit t (record_of h s ∷ later) ≡ cond (not p || not g && not y) (pairs_fit t later) false
  unfolding pairs_fit
  fits_step false y g e f k = rw e
  fits_step true true false e f k = rw (e, later_pairs t s later, f)
  fits_step true y true e f k = rw (e, k) (ends (any (same_list s) (map (λ (r : Headed). r.items) (keep (is_pair t) later))) (distinct_lists (map (λ (r : Headed). r.items) (keep (is_pair t) later))))
    where
      ends : (a b : Bool) → (not a && b) && false ≡ false
      ends true b = refl
      ends false true = refl
      ends false false = refl
  fits_step true false false e f k = rw (e, later_pairs t s later, f, k)

  fits-split : pairs_fit t (record_of h s ∷ later) ≡ cond (pair_fits t h s later) (pairs_fit t later) false
  unfolding pair_fits pair_of
  fits-split = fits_step (is_pair t (record_of h s)) (any (same_pair_in t s) later) (is_hangul_pair s) refl refl refl

  pub pair_broken : pair_fits t h s later ≡ false → false ≡ pairs_fit t (record_of h s ∷ later)
  pair_broken e = rw (fits-split, e)

  pub pair_later : pair_fits t h s later ≡ true → pairs_fit t (record_of h s ∷ later) ≡ pairs_fit t later
  pair_later e = rw (fits-split, e)

pub pairs-none : (t : Table) → true ≡ pairs_fit t []
unfolding pairs_fit
pairs-none t = refl

pub rule7_is : (t : Table) (rs : List Headed) → rs ≡ t.decompositions → pairs_fit t rs ≡ rule7 t
unfolding pairs_fit rule7 pairs
rule7_is t rs e = rw e
