-- Laws of the elements of a list: those that a test finds, where they stand, and what holds of each.
use Rattle.std.specs.Prelude.{ℕ, zero, suc, ◌<◌, ◌≡◌, refl, Bool, true, false, cond, List, [], ◌∷◌, ◌++◌, map, length, get_or, eqb}
use Rattle.std.proofs.Common.{arith, sym, ap, ⊎_elim, eq-eqb}
use mathlib.Core.List.Memᴰ
use mathlib.Core.List.{Memᴰ}
use Rattle.std.proofs.Math.Option.{none, some, none-ne-some}
use Rattle.lists.specs.Lists.{keep, place_with, joined_map, same_list}
use Rattle.lists.specs.Laws.{Every, both}

module _ {A : Type 0} where
  -- no place is found exactly where no element passes the test
  pub place_none : (p : A → Bool) (at : ℕ) (s : List A) → place_with p at s ≡ none → Every (λ x. p x ≡ false) s
  place_none p at [] e = tt
  place_none p at (x ∷ s) e = go (p x) refl e (place_none p (suc at) s)
    where
      go : (b : Bool) → p x ≡ b → cond b (some at) (place_with p (suc at) s) ≡ none → (place_with p (suc at) s ≡ none → Every (λ y. p y ≡ false) s) → (p x ≡ false) × Every (λ y. p y ≡ false) s
      go true q f below = absurd (none-ne-some at (sym f))
      go false q f below = (q, below f)

  pub none_place : (p : A → Bool) (at : ℕ) (s : List A) → Every (λ x. p x ≡ false) s → place_with p at s ≡ none
  none_place p at [] h = refl
  none_place p at (x ∷ s) h = rw h.0 (none_place p (suc at) s h.1)

  -- the element at a place is a member, and a member stands at a place
  pub get_or_member : (s : List A) (j : ℕ) (d : A) → j < length s → Memᴰ (get_or s j d) s
  get_or_member [] j d h = absurd (omega arith)
  get_or_member (x ∷ s) zero d h = Memᴰ.head refl
  get_or_member (x ∷ s) (suc j) d h = Memᴰ.tail (get_or_member s j d (omega arith))

  pub member_get_or : {x : A} (s : List A) (d : A) → Memᴰ x s → (j : ℕ) × (j < length s) × (get_or s j d ≡ x)
  member_get_or [] d m = absurd (Memᴰ.not-nil m)
  member_get_or {x} (y ∷ s) d m = ⊎_elim (λ e. (0, omega arith, sym e)) (λ k. later (member_get_or s d k)) (Memᴰ.cases_cons m)
    where
      later : (j : ℕ) × (j < length s) × (get_or s j d ≡ x) → (j : ℕ) × (j < length (y ∷ s)) × (get_or (y ∷ s) j d ≡ x)
      later k = (suc k.0, omega (arith, k.1), k.2)

  pub keep_append : (p : A → Bool) (a b : List A) → keep p (a ++ b) ≡ keep p a ++ keep p b
  keep_append p [] b = refl
  keep_append p (x ∷ a) b = go (p x) (keep_append p a b)
    where
      go : (q : Bool) → keep p (a ++ b) ≡ keep p a ++ keep p b → cond q (x ∷ keep p (a ++ b)) (keep p (a ++ b)) ≡ cond q (x ∷ keep p a) (keep p a) ++ keep p b
      go true e = ap (λ (r : List A). x ∷ r) e
      go false e = e

pub joined_member : {A B : Type 0} {x : A} {y : B} (f : A → List B) (s : List A) → Memᴰ x s → Memᴰ y (f x) → Memᴰ y (joined_map f s)
joined_member f [] m k = absurd (Memᴰ.not-nil m)
joined_member {A} {B} {x} {y} f (z ∷ s) m k = ⊎_elim (λ e. Memᴰ.append_left (joined_map f s) (here e)) (λ n. Memᴰ.append_right (f z) (joined_member f s n k)) (Memᴰ.cases_cons m)
  where
    here : x ≡ z → Memᴰ y (f z)
    here e = rw (← e) k

pub list_same : (a : List ℕ) → same_list a a ≡ true
list_same [] = refl
list_same (x ∷ a) = both (eqb x x) (same_list a a) (eq-eqb x x refl) (list_same a)

pub every_map : {A B : Type 0} (P : B → Type 0) (f : A → B) (s : List A) → Every (λ x. P (f x)) s → Every P (map f s)
every_map P f [] h = tt
every_map P f (x ∷ s) h = (h.0, every_map P f s h.1)
