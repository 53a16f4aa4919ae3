-- What the library's test of each item and the next says.
use Prim.Native.Nat.{ℕ, ◌+◌, ◌*◌, ◌<◌, ◌≤◌}
use native.Mathlib.Omega.{arith}
use mathlib.Core.Path.{◌≡◌, refl, sym}
use mathlib.Core.Bool.{Bool, true, false, false≢true}
use mathlib.Core.Logic.{◌↔◌}
use mathlib.Core.List.{List}
use lib.ListN.{get_or}
use lib.Dec.{ltb}
use borrow.Author.Tests.{ltb-true, ltb-false}
use Rattle.std.specs.List.{IsAllAdjacentAnswer}
use Rattle.apart.specs.Apart.{Apart}
use Rattle.apart.specs.Tested.{chained}

module _ (ws : List ℕ) where
  itself : (k : ℕ) → get_or ws (k * 1) 0 ≤ get_or ws (k * 1 + 0) 0
  itself k = let z : k * 1 + 0 ≡ k * 1 = omega arith in rw z (omega arith)

  one : (k : ℕ) → get_or ws k 0 < get_or ws (k + 1) 0 → get_or ws (k * 1 + 0) 0 < get_or ws ((k + 1) * 1) 0
  one k h =
      let a : k * 1 + 0 ≡ k = omega arith in
      let b : (k + 1) * 1 ≡ k + 1 = omega arith in
      rw (a, b) h

  back : (k : ℕ) → get_or ws (k * 1 + 0) 0 < get_or ws ((k + 1) * 1) 0 → get_or ws k 0 < get_or ws (k + 1) 0
  back k h =
      let a : k * 1 + 0 ≡ k = omega arith in
      let b : (k + 1) * 1 ≡ k + 1 = omega arith in
      rw (a, b) at h

  pub rises : (r : Bool) → IsAllAdjacentAnswer (λ x y b. b ≡ ltb x y) ws r → (r ≡ true) ↔ Apart 1 0 ws
  rises true h = (λ q. chained 1 0 ws (λ k l. itself k) (λ k l. one k (ltb-true _ _ (sym (h k 0 (omega arith))))), λ a. refl)
  rises false h =
      let k = h.0 in
      (λ q. absurd (false≢true q), λ a. absurd (omega (arith, ltb-false _ _ (sym (h.2 0)), back k (a.apart k (k + 1) (omega arith) (omega (arith, h.1))))))
