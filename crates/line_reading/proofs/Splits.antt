-- Where a byte stands first, and what that says of splitting there.
use Prim.Native.Nat.{ℕ, suc, ◌+◌, ◌≤◌, ◌<◌}
use native.Mathlib.Omega.{arith}
use native.Mathlib.Numerals.{add-one}
use mathlib.Core.Path.{◌≡◌, refl}
use mathlib.Core.Bool.{Bool, true, false, cond}
use mathlib.Core.List.{List, [], ◌∷◌}
use lib.ListN.{length, take, drop, get_or, drop_of_length-le}
use lib.Seq.{drop-cons}
use lib.Dec.{eqb}
use borrow.Author.Tests.{eq-eqb, ne_eqb}
use Rattle.lists.specs.Lists.{split, onto_first}
use Rattle.line_reading.specs.Reading.{first_at}

-- i bytes are passed, none of them b
pub record Passed (b : ℕ) (s : List ℕ) (i : ℕ) : Type 0 where
  pub room : i ≤ length s
  pub place : first_at b s ≡ i + first_at b (drop i s)

pub passed_none : (b : ℕ) (s : List ℕ) → Passed b s 0
passed_none b s = record { room = omega arith; place = omega arith }

module _ {b : ℕ} {s : List ℕ} {i : ℕ} (p : Passed b s i) where
  pub passed_more : i < length s → (get_or s i 0 ≡ b → ⊥) → Passed b s (i + 1)
  unfolding first_at
  passed_more h ne =
      let split : drop i s ≡ get_or s i 0 ∷ drop (i + 1) s = rw (add-one i, drop-cons s i 0 h) in
      let later : first_at b (drop i s) ≡ suc (first_at b (drop (i + 1) s)) = rw (split, ne_eqb (get_or s i 0) b ne) in
      record { room = omega arith; place = omega (arith, p.place, later) }

  pub passed_found : i < length s → get_or s i 0 ≡ b → i ≡ first_at b s
  unfolding first_at
  passed_found h e =
      let split : drop i s ≡ get_or s i 0 ∷ drop (i + 1) s = rw (add-one i, drop-cons s i 0 h) in
      let here : first_at b (drop i s) ≡ 0 = rw (split, eq-eqb (get_or s i 0) b e) in
      omega (arith, p.place, here)

  pub passed_all : length s ≤ i → i ≡ first_at b s
  unfolding first_at
  passed_all h = let none : first_at b (drop i s) ≡ 0 = rw (drop_of_length-le s {i = i} h) in omega (arith, p.place, none)

pub first_inside : (b : ℕ) (s : List ℕ) → first_at b s ≤ length s
unfolding first_at
first_inside b [] = omega arith
first_inside b (x ∷ s) = go (eqb x b) (first_inside b s)
  where
    go : (t : Bool) → first_at b s ≤ length s → cond t 0 (suc (first_at b s)) ≤ suc (length s)
    go true h = omega arith
    go false h = omega arith

-- a text without b is one part
pub split-whole : (b : ℕ) (s : List ℕ) → first_at b s ≡ length s → split b s ≡ s ∷ []
unfolding first_at split
split-whole b [] h = refl
split-whole b (x ∷ s) h = go (eqb x b) h (split-whole b s)
  where
    go : (t : Bool) → cond t 0 (suc (first_at b s)) ≡ suc (length s) → (first_at b s ≡ length s → split b s ≡ s ∷ [])
        → cond t ([] ∷ split b s) (onto_first x (split b s)) ≡ (x ∷ s) ∷ []
    go true h f = absurd (omega arith)
    go false h f = rw (f (omega arith))

-- else the first part ends before the first b, and the others are those behind it
pub split-first : (b : ℕ) (s : List ℕ) → first_at b s < length s → split b s ≡ take (first_at b s) s ∷ split b (drop (first_at b s + 1) s)
unfolding first_at split
split-first b [] h = absurd (omega arith)
split-first b (x ∷ s) h = go (eqb x b) h (split-first b s)
  where
    go : (t : Bool) → cond t 0 (suc (first_at b s)) < suc (length s) → (first_at b s < length s → split b s ≡ take (first_at b s) s ∷ split b (drop (first_at b s + 1) s))
        → cond t ([] ∷ split b s) (onto_first x (split b s)) ≡ take (cond t 0 (suc (first_at b s))) (x ∷ s) ∷ split b (drop (cond t 0 (suc (first_at b s)) + 1) (x ∷ s))
    go true h f = refl
    go false h f = rw (add-one (suc (first_at b s)), f (omega arith), add-one (first_at b s))
