-- Looking through the slots, from the first on.
use Prim.Native.Nat.{ℕ, zero, suc}
use native.Mathlib.Numerals.{add-one}
use mathlib.Core.Path.{◌≡◌, refl, ap, ◌∙◌}
use mathlib.Core.Bool.{Bool, true, false, ◌&&◌, ◌||◌, cond}
use mathlib.Core.List.{List, [], ◌∷◌, map}
use mathlib.Core.Option.{some}
use lib.ListN.{length, take, drop}
use lib.Dec.{eqb, ltb}
use Rattle.std.specs.List.{list_all, list_any, position_from, position_or_len}
use Rattle.std.specs.Prelude.{Some, None}
use Rattle.std.specs.Prelude as code
use Rattle.std.specs.Simd.{first_chunks}
use Rattle.std.proofs.lemmas.Iterator.Adapters.{position_from-zero}
use Rattle.lists.specs.Lists.{any, place_with}
use Rattle.book_slots.specs.Book.{slot_size, Slot, slot_of, slots_of}
use Rattle.book_slots.specs.Damage.{zeros}
use Rattle.book_slots.specs.Walks.{place_is}

-- the slots that the words are, as they are lent
pub slots_chunks : (n : ℕ) (ws : List ℕ) → map slot_of (first_chunks slot_size n ws) ≡ slots_of n ws
unfolding slots_of
slots_chunks zero ws = refl
slots_chunks (suc n) ws = ap (λ (r : List Slot). slot_of (take slot_size ws) ∷ r) (slots_chunks n (drop slot_size ws))

-- the first that passes a test, in std's words and in those of `lists`
place_from : (p : Slot → Bool) (i : ℕ) (xs : List (List ℕ)) → place_is (position_from (λ a. p (slot_of a)) i xs) ≡ place_with p i (map slot_of xs)
place_from p i [] = refl
place_from p i (x ∷ xs) = rw (add-one i) (go (p (slot_of x)) (place_from p (suc i) xs))
  where
    go : (b : Bool) → place_is (position_from (λ a. p (slot_of a)) (suc i) xs) ≡ place_with p (suc i) (map slot_of xs)
        → place_is (cond b (Some i) (position_from (λ a. p (slot_of a)) (suc i) xs)) ≡ cond b (some i) (place_with p (suc i) (map slot_of xs))
    go true h = refl
    go false h = h

pub first_place : (p : Slot → Bool) (xs : List (List ℕ)) (r : code.Option ℕ)
    → r ≡ cond (ltb (position_or_len (λ a. p (slot_of a)) xs) (length xs)) (Some (position_or_len (λ a. p (slot_of a)) xs)) None
    → place_is r ≡ place_with p 0 (map slot_of xs)
first_place p xs r e = ap place_is (e ∙ position_from-zero (λ a. p (slot_of a)) xs) ∙ place_from p 0 xs

-- whether one passes
pub any_slot : (p : Slot → Bool) (xs : List (List ℕ)) → list_any (λ a. p (slot_of a)) xs ≡ any p (map slot_of xs)
any_slot p [] = refl
any_slot p (x ∷ xs) = ap (λ b. p (slot_of x) || b) (any_slot p xs)

-- whether all words are zero, in std's words and in those of `lists`
pub every_zero : (s : List ℕ) → list_all (λ w. eqb w 0) s ≡ zeros s
every_zero [] = refl
every_zero (w ∷ s) = ap (λ b. eqb w 0 && b) (every_zero s)
