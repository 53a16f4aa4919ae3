-- The group that is found for a text, by its number.
use Prim.Native.Nat.{ℕ, suc, ◌+◌}
use native.Mathlib.Omega.{arith}
use mathlib.Core.Path.{◌≡◌, refl}
use mathlib.Core.Bool.{Bool, true, false, cond}
use mathlib.Core.List.{List, [], ◌∷◌}
use mathlib.Core.Option.{some}
use Rattle.lists.specs.Lists.{all}
use Rattle.lists.specs.Laws.{both_left, both_right}
use Rattle.table.specs.Table.{Group}
use Rattle.table.proofs.Lookups.{none-some}
use Rattle.groups.specs.Groups.{holds_all, Numbered, group_from, group_of}
use Rattle.compounds.specs.Compounds.{list_of}
use Rattle.compounds.proofs.CompoundLaws.{listed_white}

-- the group that is found, by its number: its list, and that it is whitelisted where it has one
pub record FoundHere (gs : List Group) (g : Numbered) : Type 0 where
  pub list : list_of gs g.number ≡ g.group.sequences
  pub white : listed_white g.group ≡ true

record FoundFrom (n : ℕ) (gs : List Group) (g : Numbered) : Type 0 where
  behind : ℕ
  number : g.number ≡ n + behind
  list : list_of gs behind ≡ g.group.sequences
  white : listed_white g.group ≡ true

found_from : (n : ℕ) (gs : List Group) (s : List ℕ) (g : Numbered) → all listed_white gs ≡ true → group_from n gs s ≡ some g → FoundFrom n gs g
unfolding group_from list_of
found_from n [] s g w e = absurd (none-some g e)
found_from n (x ∷ gs) s g w e =
    go (holds_all s x) e (both_left (listed_white x) (all listed_white gs) w) (λ k. found_from (suc n) gs s g (both_right (listed_white x) (all listed_white gs) w) k)
  where
    go : (b : Bool) → cond b (some (record { number = n; group = x })) (group_from (suc n) gs s) ≡ some g → listed_white x ≡ true
        → (group_from (suc n) gs s ≡ some g → FoundFrom (suc n) gs g) → FoundFrom n (x ∷ gs) g
    go true k h f =
        let same : g ≡ record { number = n; group = x } = cc in
        rw same (record { behind = 0; number = omega arith; list = refl; white = h })
    go false k h f =
        let r = f k in
        record { behind = suc r.behind; number = omega (arith, r.number); list = r.list; white = r.white }

pub found_here : (gs : List Group) (s : List ℕ) (g : Numbered) → all listed_white gs ≡ true → group_of gs s ≡ some g → FoundHere gs g
unfolding group_of
found_here gs s g w e =
    let r = found_from 0 gs s g w e in
    let n : g.number ≡ r.behind = omega (arith, r.number) in
    record { list = rw n r.list; white = r.white }
