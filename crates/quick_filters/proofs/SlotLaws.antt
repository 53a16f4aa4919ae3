-- Laws of the index of places by their words.
use Prim.Native.Nat.{ℕ, ◌+◌, ◌-◌, ◌%◌, ◌≤◌, ◌<◌}
use native.Mathlib.Omega.{arith}
use mathlib.Core.Path.{◌≡◌, refl, sym, ◌∙◌, ap}
use mathlib.Core.Logic.{◌⊎◌, inl, inr}
use mathlib.Core.Bool.{Bool, true, false}
use mathlib.Core.List.{List}
use lib.ListN.{length, get_or, set, length-set}
use lib.Seq.{get_or-set_same, get_or-set_other}
use lib.Dec.{ltb, eqb}
use borrow.Author.Tests.{eqb-true, eqb-false, ltb-true, ltb-false}
use Rattle.lists.specs.Tests.{never}
use Rattle.quick_filters.specs.Slot.{slot_count, hash_of, asked, Words, SlotsIn, Kept, Asked, Came, Fresh, Stored}

module _ (part slots : List ℕ) (x y : ℕ) where
  pub asked_start : Asked part slots x y 0
  asked_start = record { full = λ i h. absurd (omega arith); others = λ i h. absurd (omega arith) }

  asked_on : (j : ℕ) → Asked part slots x y j → (asked slots x y j ≡ 0 → ⊥) → (Words part (asked slots x y j) x y → ⊥) → Asked part slots x y (j + 1)
  asked_on j w full other = record { full = λ i h. one i h (ltb i j) refl; others = λ i h. two i h (ltb i j) refl }
    where
      one : (i : ℕ) → i < j + 1 → (b : Bool) → ltb i j ≡ b → asked slots x y i ≡ 0 → ⊥
      one i h true e = w.full i (ltb-true i j e)
      one i h false e = let k : j ≤ i = ltb-false i j e in let s : i ≡ j = omega arith in rw s full

      two : (i : ℕ) → i < j + 1 → (b : Bool) → ltb i j ≡ b → Words part (asked slots x y i) x y → ⊥
      two i h true e = w.others i (ltb-true i j e)
      two i h false e = let k : j ≤ i = ltb-false i j e in let s : i ≡ j = omega arith in rw s other

  -- as the code counts, from the slot where the search starts
  module _ (start : ℕ) (e : start ≡ hash_of x y) (j : ℕ) (w : Asked part slots x y j) where
    pub came_empty : get_or slots ((start + j) % 2048) 0 ≡ 0 → Came part slots x y ((start + j) % 2048)
    came_empty z = record { after = j; at = rw e; past = w; stops = λ n. absurd (n z) }

    pub came_found : Words part (get_or slots ((start + j) % 2048) 0) x y → Came part slots x y ((start + j) % 2048)
    came_found s = record { after = j; at = rw e; past = w; stops = λ n. s }

    pub asked-next : (get_or slots ((start + j) % 2048) 0 ≡ 0 → ⊥) → (Words part (get_or slots ((start + j) % 2048) 0) x y → ⊥) → Asked part slots x y (j + 1)
    asked-next full other = asked_on j w (rw e at full) (rw e at other)

  module _ (r : ℕ) (c : Came part slots x y r) where
    -- words that are in the index are not behind an empty slot
    pub kept_not : get_or slots r 0 ≡ 0 → Kept part slots x y → ⊥
    kept_not e k = go (ltb k.after c.after) (ltb c.after k.after) refl refl
      where
        here : asked slots x y c.after ≡ 0
        here = ap (λ (i : ℕ). get_or slots i 0) (sym c.at) ∙ e

        go : (a b : Bool) → ltb k.after c.after ≡ a → ltb c.after k.after ≡ b → ⊥
        go true b p q = c.past.others k.after (ltb-true k.after c.after p) k.words
        go false true p q = k.full c.after (ltb-true c.after k.after q) here
        go false false p q =
            let l : c.after ≤ k.after = ltb-false k.after c.after p in
            let m : k.after ≤ c.after = ltb-false c.after k.after q in
            let s : k.after ≡ c.after = omega arith in
            k.there (rw s here)

-- a place is put into an empty slot
module _ (part slots : List ℕ) (r v : ℕ) (w : SlotsIn part slots) (small : r < slot_count) (empty : get_or slots r 0 ≡ 0) (some : 0 < v) (inside : v < length part) where
  now_there : get_or (set slots r v) r 0 ≡ v
  now_there = get_or-set_same slots r v 0 (omega (arith, w.room))

  full_on : (i : ℕ) → (get_or slots i 0 ≡ 0 → ⊥) → get_or (set slots r v) i 0 ≡ get_or slots i 0
  full_on i n = get_or-set_other slots r i v 0 (λ e. n (rw e empty))

  pub store_only : (i : ℕ) → (get_or (set slots r v) i 0 ≡ get_or slots i 0) ⊎ (get_or (set slots r v) i 0 ≡ v)
  store_only i = go (eqb i r) refl
    where
      go : (b : Bool) → eqb i r ≡ b → (get_or (set slots r v) i 0 ≡ get_or slots i 0) ⊎ (get_or (set slots r v) i 0 ≡ v)
      go true e = inr (rw (eqb-true i r e) now_there)
      go false e = inl (get_or-set_other slots r i v 0 (eqb-false i r e))

  pub store_in : SlotsIn part (set slots r v)
  store_in = record { room = length-set slots r v ∙ w.room; inside = λ i n. go i n (store_only i) }
    where
      go : (i : ℕ) → (get_or (set slots r v) i 0 ≡ 0 → ⊥) → (get_or (set slots r v) i 0 ≡ get_or slots i 0) ⊎ (get_or (set slots r v) i 0 ≡ v) → get_or (set slots r v) i 0 < length part
      go i n (inl e) = rw e (w.inside i (λ z. n (e ∙ z)))
      go i n (inr e) = rw e inside

  pub store_kept : (x y : ℕ) → Kept part slots x y → Kept part (set slots r v) x y
  store_kept x y k =
      record {
        after = k.after;
        full = λ i h z. k.full i h (sym (full_on ((hash_of x y + i) % 2048) (k.full i h)) ∙ z);
        there = λ z. k.there (sym (full_on ((hash_of x y + k.after) % 2048) k.there) ∙ z);
        words = rw (full_on ((hash_of x y + k.after) % 2048) k.there) k.words;
      }

  pub store_fresh : (x y : ℕ) → Came part slots x y r → get_or part (v - 1) 0 ≡ x → get_or part v 0 ≡ y → Fresh part slots (set slots r v) x y
  store_fresh x y c p q =
      let at : get_or (set slots r v) ((hash_of x y + c.after) % 2048) 0 ≡ v = ap (λ (i : ℕ). get_or (set slots r v) i 0) (sym c.at) ∙ now_there in
      record {
        fresh = kept_not part slots x y r c empty;
        here = record {
          after = c.after;
          full = λ i h z. c.past.full i h (sym (full_on ((hash_of x y + i) % 2048) (c.past.full i h)) ∙ z);
          there = λ z. absurd (omega (arith, sym at ∙ z));
          words = rw at (record { first = p; second = q });
        };
      }

pub stored_none : (part slots : List ℕ) (n s : ℕ) → SlotsIn part slots → (n ≡ 2 → ⊥) → Stored part slots slots n s true
stored_none part slots n s w h = record { slots = w; only = λ i. inl refl; kept = λ x y k. k; put = λ e t. absurd (h t) }

pub stored_not : (part slots : List ℕ) (n s : ℕ) → SlotsIn part slots → Stored part slots slots n s false
stored_not part slots n s w = record { slots = w; only = λ i. inl refl; kept = λ x y k. k; put = λ e t. never true refl (sym e) }

pub stored_new : (part slots : List ℕ) (n s r : ℕ) → SlotsIn part slots → n ≡ 2 → s + 1 < length part → r < slot_count → get_or slots r 0 ≡ 0
    → Came part slots (get_or part s 0) (get_or part (s + 1) 0) r → Stored part slots (set slots r (s + 1)) n s true
stored_new part slots n s r w two h small e c =
    let some : 0 < s + 1 = omega arith in
    let back : s + 1 - 1 ≡ s = omega arith in
    record {
      slots = store_in part slots r (s + 1) w small e some h;
      only = λ i. go i (store_only part slots r (s + 1) w small e some h i);
      kept = store_kept part slots r (s + 1) w small e some h;
      put = λ a b. store_fresh part slots r (s + 1) w small e some h (get_or part s 0) (get_or part (s + 1) 0) c (rw back refl) refl;
    }
  where
    go : (i : ℕ) → (get_or (set slots r (s + 1)) i 0 ≡ get_or slots i 0) ⊎ (get_or (set slots r (s + 1)) i 0 ≡ s + 1)
        → (get_or (set slots r (s + 1)) i 0 ≡ get_or slots i 0) ⊎ (n ≡ 2) × (get_or (set slots r (s + 1)) i 0 ≡ s + 1)
    go i (inl q) = inl q
    go i (inr q) = inr (two, q)

pub positive : (n : ℕ) → (n ≡ 0 → ⊥) → 1 ≤ n
positive n h = go (eqb n 0) refl
  where
    go : (b : Bool) → eqb n 0 ≡ b → 1 ≤ n
    go true e = absurd (h (eqb-true n 0 e))
    go false e = omega (arith, eqb-false n 0 e)
