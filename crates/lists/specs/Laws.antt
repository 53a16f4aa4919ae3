-- Laws of the tests and functions of Lists.antt.
use Rattle.std.specs.Prelude.{ℕ, suc, ◌+◌, ◌*◌, ◌≤◌, ◌≡◌, refl, Bool, true, false, ◌&&◌, ◌||◌, cond, ◌⊎◌, length, eqb}
use Rattle.std.proofs.Common.{mul-suc, arith, sym, ap, ◌∙◌, inl, inr, ⊎_elim, length-append, eqb-true, eq-eqb}
use Rattle.std.proofs.lemmas.Bool.{false≢true}
use mathlib.Core.List.{List, [], ◌∷◌, ◌++◌, append_assoc, tail-eq_of_cons-eq, head-eq_of_cons-eq}
use mathlib.Core.List.{Memᴰ}
use Rattle.std.proofs.Math.Option.{Option, none, some, none-ne-some, some-injective}
use Rattle.lists.specs.Lists.{all, keep, first_with, joined_map, count_with, and_then, is_empty, mem, same_list}

-- both of two tests pass
pub both_left : (a b : Bool) → (a && b) ≡ true → a ≡ true
both_left true b e = refl
both_left false b e = e

pub both_right : (a b : Bool) → (a && b) ≡ true → b ≡ true
both_right true b e = e
both_right false b e = absurd (false≢true e)

pub both : (a b : Bool) → a ≡ true → b ≡ true → (a && b) ≡ true
both true b e f = f
both false b e f = e

-- one of two tests passes
pub either : (a b : Bool) → (a || b) ≡ true → (a ≡ true) ⊎ (b ≡ true)
either true b e = inl refl
either false b e = inr e

-- the two ways that a test can end
pub decided : (b : Bool) → (b ≡ true) ⊎ (b ≡ false)
decided true = inl refl
decided false = inr refl

module _ {A : Type 0} where
  -- what holds of both arms holds of the choice
  pub of_each : (P : A → Type 0) (b : Bool) (x y : A) → P x → P y → P (cond b x y)
  of_each P true x y h k = h
  of_each P false x y h k = k

  -- every element is P
  abbrev pub Every : (A → Type 0) → List A → Type 0
  Every P [] = Unit {0}
  Every P (x ∷ xs) = P x × Every P xs

  module _ (P : A → Type 0) where
    pub every_append : (a b : List A) → Every P a → Every P b → Every P (a ++ b)
    every_append [] b h k = k
    every_append (x ∷ a) b h k = (h.0, every_append a b h.1 k)

    pub every_front : (a b : List A) → Every P (a ++ b) → Every P a
    every_front [] b h = tt
    every_front (x ∷ a) b h = (h.0, every_front a b h.1)

    pub every_back : (a b : List A) → Every P (a ++ b) → Every P b
    every_back [] b h = h
    every_back (x ∷ a) b h = every_back a b h.1

    -- what holds of each element holds of a member
    pub every_member : {x : A} (s : List A) → Every P s → Memᴰ x s → P x
    every_member {x} [] h m = absurd (mathlib.Core.List.Memᴰ.not-nil m)
    every_member {x} (y ∷ s) h m = ⊎_elim (λ e. rw e h.0) (λ k. every_member s h.1 k) (mathlib.Core.List.Memᴰ.cases_cons m)

    pub every_of_all : (s : List A) → ((x : A) → Memᴰ x s → P x) → Every P s
    every_of_all [] h = tt
    every_of_all (y ∷ s) h = (h y (mathlib.Core.List.Memᴰ.head refl), every_of_all s (λ x m. h x (mathlib.Core.List.Memᴰ.tail m)))

  pub every_imp : {P Q : A → Type 0} (s : List A) → ((x : A) → P x → Q x) → Every P s → Every Q s
  every_imp [] f h = tt
  every_imp (x ∷ s) f h = (f x h.0, every_imp s f h.1)

  -- the test of all elements, and each element's
  pub all_every : (p : A → Bool) (s : List A) → all p s ≡ true → Every (λ x. p x ≡ true) s
  all_every p [] h = tt
  all_every p (x ∷ s) h = (both_left (p x) (all p s) h, all_every p s (both_right (p x) (all p s) h))

  pub every_all : (p : A → Bool) (s : List A) → Every (λ x. p x ≡ true) s → all p s ≡ true
  every_all p [] h = refl
  every_all p (x ∷ s) h = both (p x) (all p s) h.0 (every_all p s h.1)

  pub not_empty : (s : List A) → 1 ≤ length s → is_empty s ≡ false
  not_empty [] h = absurd (omega arith)
  not_empty (x ∷ s) h = refl

  -- the element found is a member and passes the test
  pub found_member : (p : A → Bool) (s : List A) (x : A) → first_with p s ≡ some x → Memᴰ x s × (p x ≡ true)
  found_member p [] x e = absurd (none-ne-some x e)
  found_member p (y ∷ s) x e = go (p y) refl (found_member p s x)
    where
      go : (b : Bool) → p y ≡ b → (first_with p s ≡ some x → Memᴰ x s × (p x ≡ true)) → Memᴰ x (y ∷ s) × (p x ≡ true)
      go true f below =
          let q : y ≡ x = some-injective y x (rw f at e) in
          (mathlib.Core.List.Memᴰ.head (sym q), rw (← q) f)
      go false f below =
          let m = below (rw f at e) in
          (mathlib.Core.List.Memᴰ.tail m.0, m.1)

  -- a kept element is a member and passes the test
  pub keep_member : (p : A → Bool) (s : List A) (x : A) → Memᴰ x (keep p s) → Memᴰ x s × (p x ≡ true)
  keep_member p [] x m = absurd (mathlib.Core.List.Memᴰ.not-nil m)
  keep_member p (y ∷ s) x m = go (p y) refl (keep_member p s x)
    where
      put : Memᴰ x s × (p x ≡ true) → Memᴰ x (y ∷ s) × (p x ≡ true)
      put k = (mathlib.Core.List.Memᴰ.tail k.0, k.1)

      go : (b : Bool) → p y ≡ b → (Memᴰ x (keep p s) → Memᴰ x s × (p x ≡ true)) → Memᴰ x (y ∷ s) × (p x ≡ true)
      go true f below =
          let k : Memᴰ x (y ∷ keep p s) = rw f at m in
          ⊎_elim (λ q. (mathlib.Core.List.Memᴰ.head q, rw q f)) (λ n. put (below n)) (mathlib.Core.List.Memᴰ.cases_cons k)
      go false f below = put (below (rw f at m))

  pub count_append : (p : A → Bool) (a b : List A) → count_with p (a ++ b) ≡ count_with p a + count_with p b
  count_append p [] b = omega arith
  count_append p (x ∷ a) b = go (p x) (count_append p a b)
    where
      go : (q : Bool) → count_with p (a ++ b) ≡ count_with p a + count_with p b → cond q (suc (count_with p (a ++ b))) (count_with p (a ++ b)) ≡ cond q (suc (count_with p a)) (count_with p a) + count_with p b
      go true e = omega arith
      go false e = e

module _ {A B : Type 0} where
  -- where two steps gave b, the first gave something for which the second gave b
  pub then_some : {C : Type 0} (o : Option A) (f : A → Option B) (b : B) → and_then o f ≡ some b → ((a : A) → o ≡ some a → f a ≡ some b → C) → C
  then_some none f b e k = absurd (none-ne-some b e)
  then_some (some a) f b e k = k a refl e

module _ {A B : Type 0} (f : A → List B) where
  pub joined_append : (a b : List A) → joined_map f (a ++ b) ≡ joined_map f a ++ joined_map f b
  joined_append [] b = refl
  joined_append (x ∷ a) b = ap (λ (r : List B). f x ++ r) (joined_append a b) ∙ sym (append_assoc (f x) (joined_map f a) (joined_map f b))

  pub joined_every : (P : B → Type 0) (s : List A) → Every (λ x. Every P (f x)) s → Every P (joined_map f s)
  joined_every P [] h = tt
  joined_every P (x ∷ s) h = every_append P (f x) (joined_map f s) h.0 (joined_every P s h.1)

  -- where f gives at least one for each element, and at most n
  pub joined-longer : ((x : A) → 1 ≤ length (f x)) → (s : List A) → length s ≤ length (joined_map f s)
  joined-longer h [] = omega arith
  joined-longer h (x ∷ s) = simp length-append (omega (arith, h x, joined-longer h s))

  pub joined_shorter : (n : ℕ) → ((x : A) → length (f x) ≤ n) → (s : List A) → length (joined_map f s) ≤ n * length s
  joined_shorter n h [] = omega arith
  joined_shorter n h (x ∷ s) = simp (length-append, mul-suc) (omega (arith, h x, joined_shorter n h s))

module _ {A : Type 0} (f : A → List A) where
  -- f changes no element of the list
  pub joined_self : (s : List A) → Every (λ x. f x ≡ x ∷ []) s → joined_map f s ≡ s
  joined_self [] h = refl
  joined_self (x ∷ s) h = rw (h.0, joined_self s h.1)

  -- a list of one element
  single_head : (l r : List A) (x : A) (s : List A) → length l ≡ 1 → l ++ r ≡ x ∷ s → (l ≡ x ∷ []) × (r ≡ s)
  single_head [] r x s h e = absurd (omega arith)
  single_head (y ∷ []) r x s h e = (ap (λ (z : A). z ∷ []) (head-eq_of_cons-eq e), tail-eq_of_cons-eq e)
  single_head (y ∷ z ∷ l) r x s h e = absurd (omega arith)

  -- where f gives at least one for each element and the whole list is unchanged, no element is changed
  pub joined_fixed : ((x : A) → 1 ≤ length (f x)) → (s : List A) → joined_map f s ≡ s → Every (λ x. f x ≡ x ∷ []) s
  joined_fixed h [] e = tt
  joined_fixed h (x ∷ s) e =
      let n : length (f x) + length (joined_map f s) ≡ suc (length s) = sym (length-append (f x) (joined_map f s)) ∙ ap length e in
      let k = single_head (f x) (joined_map f s) x s (omega (arith, h x, joined-longer f h s)) e in
      (k.0, joined_fixed h s k.1)

pub same-list : (a b : List ℕ) → same_list a b ≡ true → a ≡ b
same-list [] [] h = refl
same-list [] (y ∷ b) h = absurd (false≢true h)
same-list (x ∷ a) [] h = absurd (false≢true h)
same-list (x ∷ a) (y ∷ b) h =
    let e : x ≡ y = eqb-true x y (both_left (eqb x y) (same_list a b) h) in
    let r : a ≡ b = same-list a b (both_right (eqb x y) (same_list a b) h) in
    rw (e, r)

-- the test of membership, and membership
pub member_of : (c : ℕ) (s : List ℕ) → mem c s ≡ true → Memᴰ c s
member_of c [] h = absurd (false≢true h)
member_of c (x ∷ s) h =
    ⊎_elim (λ e. mathlib.Core.List.Memᴰ.head (eqb-true c x e)) (λ m. mathlib.Core.List.Memᴰ.tail (member_of c s m)) (either (eqb c x) (mem c s) h)

pub mem_of : (c : ℕ) (s : List ℕ) → Memᴰ c s → mem c s ≡ true
mem_of c [] m = absurd (mathlib.Core.List.Memᴰ.not-nil m)
mem_of c (x ∷ s) m = ⊎_elim (λ e. rw (eq-eqb c x e)) (λ k. later (eqb c x) (mem_of c s k)) (mathlib.Core.List.Memᴰ.cases_cons m)
  where
    later : (b : Bool) → mem c s ≡ true → (b || mem c s) ≡ true
    later true h = refl
    later false h = h
