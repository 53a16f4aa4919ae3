-- What the library's `all`, `any` and `contains` say of a list, in the words of Lists.antt.
use Rattle.std.specs.Prelude.{ℕ, ◌≡◌, refl, Bool, ◌&&◌, ◌||◌, List, [], ◌∷◌, eqb}
use Rattle.std.specs.List.{list_all, list_any}
use Rattle.std.proofs.Common.{ap}
use Rattle.lists.specs.Lists.{all, any, mem}
use Rattle.lists.specs.Tests.{eqb_turn}

module _ {A : Type 0} (p : A → Bool) where
  -- every element passes
  pub all_is : (s : List A) → list_all p s ≡ all p s
  all_is [] = refl
  all_is (x ∷ s) = ap (λ (b : Bool). p x && b) (all_is s)

  -- some element passes
  pub any_is : (s : List A) → list_any p s ≡ any p s
  any_is [] = refl
  any_is (x ∷ s) = ap (λ (b : Bool). p x || b) (any_is s)

-- c is an element
pub contains_is : (c : ℕ) (s : List ℕ) → list_any (λ x. eqb x c) s ≡ mem c s
contains_is c [] = refl
contains_is c (x ∷ s) = rw (contains_is c s, eqb_turn x c)
