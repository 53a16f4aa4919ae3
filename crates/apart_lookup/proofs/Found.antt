-- What the lookups answer, by the law of a search by halves.
use Prim.Native.Nat.{ℕ, ◌+◌, ◌-◌, ◌*◌, ◌<◌, ◌≤◌}
use native.Mathlib.Omega.{arith}
use mathlib.Core.Path.{◌≡◌, sym, ◌∙◌}
use mathlib.Core.Bool.{Bool, false, ◌&&◌}
use mathlib.Core.List.{List}
use lib.ListN.{get_or}
use lib.Dec.{leb}
use borrow.Author.Tests.{le-leb, lt-leb}
use Rattle.lists.specs.Lists.{mem}
use Rattle.table.specs.Part.{in_pairs, class_among}
use Rattle.apart.specs.Apart.{Apart}
use Rattle.apart.specs.Entries.{positive}
use Rattle.halving.specs.Halving.{Ranked}
use Rattle.halving.specs.Stride.{pairs-found, class-found, item_found}

-- what the lookups answer where no entry starts at or below c, and where one does
module _ (ws : List ℕ) (c r : ℕ) where
  led : (b : Bool) → (r ≡ 0 → ⊥) → (leb 1 r && b) ≡ b
  led b n = rw (le-leb 1 r (omega (arith, positive r n)))

  module _ (a : Apart 2 1 ws) (q : Ranked ws 2 c r) where
    pub pairs-none : r ≡ 0 → false ≡ in_pairs c ws
    pairs-none e = sym (rw e at (pairs-found ws c r a q))

    pub pairs-some : (r ≡ 0 → ⊥) → leb c (get_or ws ((r - 1) * 2 + 1) 0) ≡ in_pairs c ws
    pairs-some n = sym (pairs-found ws c r a q ∙ led _ n)

  module _ (a : Apart 1 0 ws) (q : Ranked ws 1 c r) where
    pub item_none : r ≡ 0 → false ≡ mem c ws
    item_none e = sym (rw e at (item_found ws c r a q))

    pub item_some : (r ≡ 0 → ⊥) → leb c (get_or ws (r - 1) 0) ≡ mem c ws
    item_some n =
        let here : (r - 1) * 1 + 0 ≡ r - 1 = omega arith in
        sym (rw here at (item_found ws c r a q ∙ led _ n))

  module _ (a : Apart 3 1 ws) (q : Ranked ws 3 c r) where
    pub class-none : r ≡ 0 → 0 ≡ class_among c ws
    class-none e = sym (rw e at (class-found ws c r a q))

    module _ (n : r ≡ 0 → ⊥) where
      pub class-some : c ≤ get_or ws ((r - 1) * 3 + 1) 0 → get_or ws ((r - 1) * 3 + 2) 0 ≡ class_among c ws
      class-some h = sym (class-found ws c r a q ∙ rw (led (leb c (get_or ws ((r - 1) * 3 + 1) 0)) n, le-leb _ _ h))

      pub class_over : get_or ws ((r - 1) * 3 + 1) 0 < c → 0 ≡ class_among c ws
      class_over h = sym (class-found ws c r a q ∙ rw (led (leb c (get_or ws ((r - 1) * 3 + 1) 0)) n, lt-leb _ _ h))
