-- Laws of tests, and of `mem`, `any` and `all` over lists that were joined, mapped or kept.
use Rattle.std.specs.Prelude.{ℕ, ◌≡◌, refl, Bool, true, false, not, ◌&&◌, ◌||◌, cond, List, [], ◌∷◌, ◌++◌, map, eqb}
use Rattle.std.proofs.Common.{sym, ◌∙◌, ap, eq-eqb, ne_eqb, eqb-true}
use Rattle.std.proofs.lemmas.Bool.{false≢true, eqb-false}
use Rattle.lists.specs.Lists.{all, any, keep, mem}
use Rattle.lists.specs.Laws.{all_every, every_all, every_member, every_of_all, member_of, mem_of}

-- two tests that pass together are one
pub agree : (a b : Bool) → (a ≡ true → b ≡ true) → (b ≡ true → a ≡ true) → a ≡ b
agree true b f g = sym (f refl)
agree false true f g = g refl
agree false false f g = refl

-- a test that does not pass fails
pub not_so : (a : Bool) → (a ≡ true → ⊥) → a ≡ false
not_so true f = absurd (f refl)
not_so false f = refl

pub never : {A : Type 0} (a : Bool) → a ≡ true → a ≡ false → A
never a e f = absurd (false≢true (sym f ∙ e))

pub untrue : (b : Bool) → not b ≡ true → b ≡ false
untrue true e = absurd (false≢true e)
untrue false e = refl

pub eqb_turn : (a b : ℕ) → eqb a b ≡ eqb b a
eqb_turn a b = go (eqb b a) refl
  where
    go : (t : Bool) → eqb b a ≡ t → eqb a b ≡ t
    go true e = eq-eqb a b (sym (eqb-true b a e))
    go false e = ne_eqb a b (λ f. eqb-false b a e (sym f))

-- membership in two lists, one behind the other, and in what was kept
pub mem_both : (c : ℕ) (a b : List ℕ) → mem c (a ++ b) ≡ mem c a || mem c b
mem_both c [] b = refl
mem_both c (x ∷ a) b = rw (mem_both c a b) (go (eqb c x))
  where
    go : (t : Bool) → t || (mem c a || mem c b) ≡ (t || mem c a) || mem c b
    go true = refl
    go false = refl

pub mem-keep : (p : ℕ → Bool) (c : ℕ) (s : List ℕ) → mem c (keep p s) ≡ mem c s && p c
mem-keep p c [] = refl
mem-keep p c (x ∷ s) = go (p x) (eqb c x) refl refl (mem-keep p c s)
  where
    none : (a : Bool) → a && false ≡ false
    none true = refl
    none false = refl

    go : (q b : Bool) → p x ≡ q → eqb c x ≡ b → mem c (keep p s) ≡ mem c s && p c
        → mem c (cond q (x ∷ keep p s) (keep p s)) ≡ (b || mem c s) && p c
    go true true e f r = let k : c ≡ x = eqb-true c x f in rw (f, k, e)
    go true false e f r = rw (f, r)
    go false true e f r = let k : c ≡ x = eqb-true c x f in rw (r, k, e) (none (mem x s))
    go false false e f r = r

-- the test of two lists, one behind the other
pub all_both : {A : Type 0} (p : A → Bool) (a b : List A) → all p (a ++ b) ≡ all p a && all p b
all_both p [] b = refl
all_both p (x ∷ a) b = rw (all_both p a b) (go (p x))
  where
    go : (t : Bool) → t && (all p a && all p b) ≡ (t && all p a) && all p b
    go true = refl
    go false = refl

-- the test of what a list was mapped to
module _ {A B : Type 0} (p : B → Bool) (f : A → B) where
  pub any-map : (xs : List A) → any p (map f xs) ≡ any (λ x. p (f x)) xs
  any-map [] = refl
  any-map (x ∷ xs) = ap (λ (b : Bool). p (f x) || b) (any-map xs)

  pub all_map : (xs : List A) → all p (map f xs) ≡ all (λ x. p (f x)) xs
  all_map [] = refl
  all_map (x ∷ xs) = ap (λ (b : Bool). p (f x) && b) (all_map xs)

-- all of a list pass where each member does, and the other way
module _ (p : ℕ → Bool) (s : List ℕ) where
  pub all-members : ((c : ℕ) → mem c s ≡ true → p c ≡ true) → all p s ≡ true
  all-members f = every_all p s (every_of_all (λ c. p c ≡ true) s (λ c m. f c (mem_of c s m)))

  pub member_passes : all p s ≡ true → (c : ℕ) → mem c s ≡ true → p c ≡ true
  member_passes e c m = every_member (λ c. p c ≡ true) s (all_every p s e) (member_of c s m)
