-- Laws of the walks over a label's spelling, for refusals 8 to 10.
use Prim.Native.Nat.{ℕ, ◌+◌, ◌-◌, ◌<◌, ◌≤◌}
use native.Mathlib.Omega.{arith}
use mathlib.Core.Path.{◌≡◌, refl, sym, ap}
use mathlib.Core.Bool.{Bool, true, false, ◌&&◌, ◌||◌}
use mathlib.Core.List.{List, [], ◌∷◌}
use lib.ListN.{length, get_or, take, drop, length-drop, drop_of_length-le}
use lib.Seq.{take_all}
use lib.Dec.{eqb}
use borrow.Author.Tests.{eq-eqb, ne_eqb}
use Rattle.lists.specs.Lists.{all, mem}
use Rattle.table.proofs.Lookups.{Walk, walk_on, drop-next}
use Rattle.table.specs.Table.{Table}
use Rattle.spelling.specs.Spelling.{low_line, hyphens, is_fenced, first_is, last_is, side_by_side, fenced}

-- the part from a place on
pub part_tail : (s : List ℕ) (i : ℕ) → take (length s - i) (drop i s) ≡ drop i s
part_tail s i = take_all (length s - i) (drop i s) (simp length-drop (omega arith))

-- over the low lines at the start
module _ (s : List ℕ) (i : ℕ) (w : Walk low_line s i) where
  pub low_on : i < length s → get_or s i 0 ≡ 0x5F → Walk low_line s (i + 1)
  unfolding low_line
  low_on h e = walk_on _ _ i 1 w (omega arith) (rw (drop-next s i h, eq-eqb 0x5F (get_or s i 0) (sym e)))

  pub low_rest : i < length s → (get_or s i 0 ≡ 0x5F → ⊥) → mem 0x5F (take (length s - i) (drop i s)) ≡ low_line s
  unfolding low_line
  low_rest h e =
      let ne : eqb 0x5F (get_or s i 0) ≡ false = ne_eqb 0x5F (get_or s i 0) (λ f. e (sym f)) in
      rw (w.same, part_tail, drop-next s i h, ne) (rw ne)

  pub low_stop : length s ≤ i → false ≡ low_line s
  unfolding low_line
  low_stop h = rw (w.same, drop_of_length-le s h)

-- the 3rd and 4th character
pub hyphens_long : (s : List ℕ) → 3 < length s → hyphens s ≡ eqb (get_or s 2 0) 0x2D && eqb (get_or s 3 0) 0x2D
unfolding hyphens
hyphens_long [] h = absurd (omega arith)
hyphens_long (a ∷ []) h = absurd (omega arith)
hyphens_long (a ∷ b ∷ []) h = absurd (omega arith)
hyphens_long (a ∷ b ∷ c ∷ []) h = absurd (omega arith)
hyphens_long (a ∷ b ∷ c ∷ d ∷ s) h = refl

pub hyphens_short : (s : List ℕ) → length s ≤ 3 → hyphens s ≡ false
unfolding hyphens
hyphens_short [] h = refl
hyphens_short (a ∷ []) h = refl
hyphens_short (a ∷ b ∷ []) h = refl
hyphens_short (a ∷ b ∷ c ∷ []) h = refl
hyphens_short (a ∷ b ∷ c ∷ d ∷ s) h = absurd (omega arith)

-- 10, read from left to right: whether the character before is fenced, and the characters that are left
module _ (p : ℕ → Bool) where
  abbrev pub fenced_after : Bool → List ℕ → Bool
  fenced_after b [] = b
  fenced_after b (c ∷ r) = b && p c || fenced_after (p c) r

  abbrev fenced_of : Bool → List ℕ → Bool
  fenced_of b s = b && first_is p s || last_is p s || side_by_side p s

  alone : (x y : Bool) → (x && y || y || false) ≡ (x && y || y)
  alone true true = refl
  alone true false = refl
  alone false true = refl
  alone false false = refl

  shuffle : (x l y s z : Bool) → (y || l || s) ≡ z → (x || l || (y || s)) ≡ (x || z)
  shuffle true l y s z e = refl
  shuffle false true true s z e = e
  shuffle false true false s z e = e
  shuffle false false true s z e = e
  shuffle false false false s z e = e

  fenced_of_lem : (b : Bool) (c : ℕ) (r : List ℕ) → fenced_of b (c ∷ r) ≡ fenced_after b (c ∷ r)
  fenced_of_lem b c [] = alone b (p c)
  fenced_of_lem b c (d ∷ r) =
      shuffle (b && p c) (last_is p (d ∷ r)) (p c && p d) (side_by_side p (d ∷ r)) (fenced_after (p c) (d ∷ r)) (fenced_of_lem (p c) d r)

-- a search for fenced characters that has come to i, the one before being fenced or not
pub record Beside (t : Table) (s : List ℕ) (b : Bool) (i : ℕ) : Type 0 where
  pub inside : i ≤ length s
  pub same : fenced t s ≡ fenced_after (is_fenced t) b (drop i s)

module _ (t : Table) (s : List ℕ) where
  pub fenced-none : length s ≡ 0 → false ≡ fenced t s
  unfolding fenced
  fenced-none h = go s h
    where
      go : (l : List ℕ) → length l ≡ 0 → false ≡ fenced t l
      go [] k = refl
      go (c ∷ r) k = absurd (omega arith)

  pub fenced_start : (length s ≡ 0 → ⊥) → Beside t s true 0
  unfolding fenced
  fenced_start h = record { inside = omega arith; same = go s h }
    where
      go : (l : List ℕ) → (length l ≡ 0 → ⊥) → fenced t l ≡ fenced_after (is_fenced t) true l
      go [] k = absurd (k refl)
      go (c ∷ r) k = fenced_of_lem (is_fenced t) true c r

  module _ (b : Bool) (i : ℕ) (w : Beside t s b i) where
    pub fenced-stop : length s ≤ i → b ≡ fenced t s
    fenced-stop h = rw (w.same, drop_of_length-le s h)

    module _ (h : i < length s) where
      pub fenced_hit : b ≡ true → true ≡ is_fenced t (get_or s i 0) → true ≡ fenced t s
      fenced_hit e f = rw (w.same, drop-next s i h, e, ← f)

      pub fenced_on : (here : Bool) → here ≡ is_fenced t (get_or s i 0) → b && here ≡ false → Beside t s here (i + 1)
      fenced_on here e f = record { inside = omega arith; same = rw (w.same, drop-next s i h, ← e, f) }
