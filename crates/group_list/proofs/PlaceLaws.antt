-- The flags of groups one after another.
use Prim.Native.Nat.{ℕ, suc, ◌+◌, ◌≤◌, ◌<◌}
use native.Mathlib.Numerals.{add-one}
use native.Mathlib.Omega.{arith}
use mathlib.Core.Path.{◌≡◌, refl, sym, ap}
use mathlib.Core.Bool.{Bool, true, false, cond}
use mathlib.Core.List.{List, [], ◌∷◌, ◌++◌}
use lib.ListN.{length, get_or, take, drop, drop_of_length-le}
use lib.Seq.{drop-cons}
use Rattle.name.specs.Parts.{Put}
use Rattle.listing.specs.Filling.{Holds, Filling, fill_start, fill_end, fill_more}
use Rattle.group_list.specs.Places.{places_of, GroupPut}

-- the flag at i and those behind it
module _ {A : Type 0} (p : A → Bool) (flags : List A) (before : List ℕ) where
  -- the numbers of the flags before i that are set stand in the list
  pub record Walked (after : List ℕ) (len i : ℕ) : Type 0 where
    pub inside : i ≤ length flags
    pub few : len ≤ i
    pub filling : Filling (places_of p 0 flags) (places_of p i (drop i flags)) before after len

  pub walk_start : Walked before 0 0
  walk_start = record { inside = omega arith; few = omega arith; filling = fill_start (places_of p 0 flags) before }

  module _ (after : List ℕ) (len i : ℕ) (l : Walked after len i) where
    pub walk_end : length flags ≤ i → Holds (places_of p 0 flags) before after len
    unfolding places_of
    walk_end h = fill_end (places_of p 0 flags) before after len (rw (drop_of_length-le flags {i = i} h) at l.filling)

    places_next : (f : A) (fs : List A) → places_of p i (f ∷ fs) ≡ cond (p f) (i ∷ []) [] ++ places_of p (i + 1) fs
    unfolding places_of
    places_next f fs = rw (add-one i) (go (p f))
      where
        go : (b : Bool) → cond b (i ∷ places_of p (suc i) fs) (places_of p (suc i) fs) ≡ cond b (i ∷ []) [] ++ places_of p (suc i) fs
        go true = refl
        go false = refl

    item_short : (b : Bool) → length (cond b (i ∷ []) []) ≤ 1
    item_short true = omega arith
    item_short false = omega arith

    pub walk_more : i < length flags → (d : A) (after' : List ℕ) (len' : ℕ) → GroupPut i (p (get_or flags i d)) after after' len len' → Walked after' len' (i + 1)
    walk_more h d after' len' g =
        let f : A = get_or flags i d in
        let next : drop i flags ≡ f ∷ drop (i + 1) flags = rw add-one (drop-cons flags i d h) in
        record {
          inside = omega arith;
          few = omega (arith, g.ends, item_short (p f), l.few);
          filling =
              fill_more (places_of p 0 flags) before after len (cond (p f) (i ∷ []) []) (places_of p (i + 1) (drop (i + 1) flags))
              after' len' (rw (next, places_next f (drop (i + 1) flags)) at l.filling) g;
        }

-- nothing is put for a flag that is not set
pub group-none : (list : List ℕ) (len group : ℕ) (flag : Bool) → flag ≡ false → GroupPut group flag list list len len
group-none list len group flag e =
    rw e (record { same = refl; ends = omega arith; written = λ h. sym (nil (take len list)) })
  where
    nil : (s : List ℕ) → s ++ [] ≡ s
    nil [] = refl
    nil (x ∷ s) = ap (λ (r : List ℕ). x ∷ r) (nil s)

pub group_put : (list list' : List ℕ) (len group : ℕ) (flag : Bool) (r : ℕ) → flag ≡ true → Put list list' len true (group ∷ []) r → GroupPut group flag list list' len r
group_put list list' len group flag r h p = rw h p
