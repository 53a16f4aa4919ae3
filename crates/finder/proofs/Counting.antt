-- The number of FE0F of a text, as the library counts them.
use Rattle.std.specs.Prelude.{◌≡◌, List, [], ◌∷◌, Bool, true, false, ℕ, suc, ◌+◌, cond, refl, count_by, nat_eq, eqb}
use Rattle.std.proofs.Common.{arith, ◌∙◌}
use Rattle.std.proofs.lemmas.List.Sums.{sum_by-cons}
use Rattle.finder.specs.Emoji.{selector, selectors_in}

pub count_selectors : (s : List ℕ) → count_by (λ k. nat_eq k selector) s ≡ selectors_in s
count_selectors [] = refl
count_selectors (c ∷ s) = sum_by-cons (λ (x : ℕ). cond (eqb x selector) 1 0) c s ∙ go (eqb c selector) (count_selectors s)
  where
    go : (b : Bool) → count_by (λ k. nat_eq k selector) s ≡ selectors_in s
        → cond b 1 0 + count_by (λ k. nat_eq k selector) s ≡ cond b (suc (selectors_in s)) (selectors_in s)
    go true e = omega arith
    go false e = omega arith
