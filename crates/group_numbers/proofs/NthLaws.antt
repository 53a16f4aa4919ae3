-- Groups by their numbers.
use Prim.Native.Nat.{ℕ, suc, ◌+◌, ◌-◌, ◌<◌}
use native.Mathlib.Numerals.{add-one}
use native.Mathlib.Omega.{arith}
use mathlib.Core.Path.{◌≡◌, refl, sym}
use mathlib.Core.Bool.{Bool, true, false, ◌&&◌, ◌||◌}
use mathlib.Core.List.{List, ◌∷◌}
use mathlib.Core.Logic.{⊎_elim}
use lib.Dec.{eqb, leb, ltb}
use borrow.Author.Tests.{ltb-true, ltb-false, le-leb, lt-leb, eq-eqb, ne_eqb}
use Rattle.lists.specs.Laws.{decided}
use Rattle.table.specs.Table.{Group}
use Rattle.table.specs.Lookup.{holds}
use Rattle.group_numbers.specs.Components.{nth}
use Rattle.group_numbers.proofs.NumberLaws.{same_or_not, strict}

or_none : (a : Bool) → (a || false) ≡ a
or_none true = refl
or_none false = refl

-- the groups from n on are one group and those behind it
module _ (g : Group) (left : List Group) (n i x : ℕ) where
  abbrev pub Next : Type 0
  Next = (leb n i && holds (nth (g ∷ left) (i - n)) x) ≡ ((eqb i n && holds g x) || (leb (n + 1) i && holds (nth left (i - (n + 1))) x))

  next-before : i < n → Next
  next-before h = rw (lt-leb n i h, ne_eqb i n (λ e. omega arith), lt-leb (n + 1) i (omega arith))

  next_here : i ≡ n → Next
  unfolding nth
  next_here e =
      let z : i - n ≡ 0 = omega arith in
      rw (le-leb n i (omega arith), z, eq-eqb i n e, lt-leb (n + 1) i (omega arith)) (sym (or_none (holds g x)))

  next-behind : n < i → Next
  unfolding nth
  next-behind h =
      let z : i - n ≡ suc (i - (n + 1)) = omega (arith, add-one (i - (n + 1))) in
      rw (le-leb n i (omega arith), z, ne_eqb i n (λ e. omega arith), le-leb (n + 1) i (omega arith))

  pub next : Next
  next = ⊎_elim next_here (λ f. ⊎_elim (λ h. next-before (ltb-true i n h)) (λ h. next-behind (strict n i (ltb-false i n h) (λ e. f (sym e)))) (decided (ltb i n))) (same_or_not i n)
