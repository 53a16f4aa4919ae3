-- No search asks more often than there are groups times places of the text.
use Rattle.std.specs.Prelude.{ℕ, ◌*◌, ◌≤◌, Bool, true, false, not, cond, List, [], ◌∷◌, map, length}
use Rattle.std.proofs.Common.{arith}
use Rattle.lists.specs.Lists.{total}
use Rattle.table.specs.Table.{Group}
use Rattle.table.specs.Lookup.{holds}
use Rattle.groups.specs.Groups.{holds_all, up_to, asked_in, asked}

up_to_fewer : {A : Type 0} (p : A → Bool) (xs : List A) → length (up_to p xs) ≤ length xs
unfolding up_to
up_to_fewer p [] = omega arith
up_to_fewer p (x ∷ xs) = go (p x) (up_to_fewer p xs)
  where
    go : (b : Bool) → length (up_to p xs) ≤ length xs → length (x ∷ cond b [] (up_to p xs)) ≤ length (x ∷ xs)
    go true h = omega arith
    go false h = omega arith

pub asked_in_fewer : (s : List ℕ) (g : Group) → asked_in s g ≤ length s
unfolding asked_in
asked_in_fewer s g = up_to_fewer (λ c. not (holds g c)) s

pub asked_fewer : (gs : List Group) (s : List ℕ) → asked gs s ≤ length gs * length s
unfolding up_to asked
asked_fewer [] s = omega arith
asked_fewer (g ∷ gs) s = go (holds_all s g) (asked_fewer gs s)
  where
    go : (b : Bool) → asked gs s ≤ length gs * length s → total (map (asked_in s) (g ∷ cond b [] (up_to (holds_all s) gs))) ≤ length (g ∷ gs) * length s
    go true h = omega (arith, asked_in_fewer s g)
    go false h = omega (arith, asked_in_fewer s g)
