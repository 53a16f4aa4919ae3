-- Records whose heads ascend: what a search for c may leave out.
use Prim.Native.Nat.{ℕ, suc, ◌≤◌, ◌<◌}
use native.Mathlib.Omega.{arith}
use mathlib.Core.Path.{◌≡◌, refl, sym, ◌∙◌}
use mathlib.Core.Bool.{true}
use mathlib.Core.List.{List, [], ◌∷◌, ◌++◌}
use mathlib.Core.Option.{none}
use lib.Dec.{leb}
use borrow.Author.Tests.{leb-true, le-leb, ne_eqb}
use Rattle.table.specs.Table.{Headed}
use Rattle.table.specs.Lookup.{items_of}
use Rattle.table.proofs.Lookups.{both}
use Rattle.heads.specs.Heads.{rising}

-- the first record does not answer where its head is not c
pub miss : (r : Headed) (rs : List Headed) (c : ℕ) → (r.head ≡ c → ⊥) → items_of (r ∷ rs) c ≡ items_of rs c
unfolding items_of
miss r rs c e = rw (ne_eqb r.head c e)

-- the first head, and the rest
pub rise_first : (f : ℕ) (r : Headed) (rs : List Headed) → rising f (r ∷ rs) ≡ true → (f ≤ r.head) × (rising (suc r.head) rs ≡ true)
unfolding rising
rise_first f r rs h =
    let p = both (leb f r.head) (rising (suc r.head) rs) h in
    (leb-true _ _ p.0, p.1)

pub rise_lower : (f g : ℕ) (rs : List Headed) → f ≤ g → rising g rs ≡ true → rising f rs ≡ true
unfolding rising
rise_lower f g [] i h = refl
rise_lower f g (r ∷ rs) i h =
    let p = rise_first g r rs h in
    rw (le-leb f r.head (omega (arith, p.0)), p.1)

pub rise_rest : (r : Headed) (rs : List Headed) → rising 0 (r ∷ rs) ≡ true → rising 0 rs ≡ true
rise_rest r rs h = rise_lower 0 (suc r.head) rs (omega arith) (rise_first 0 r rs h).1

-- of two parts the second
pub rise_behind : (xs ys : List Headed) → rising 0 (xs ++ ys) ≡ true → rising 0 ys ≡ true
rise_behind [] ys h = h
rise_behind (x ∷ xs) ys h = rise_behind xs ys (rise_rest x (xs ++ ys) h)

rise_floor : (f : ℕ) (xs : List Headed) (r : Headed) (rs : List Headed) → rising f (xs ++ r ∷ rs) ≡ true → f ≤ r.head
rise_floor f [] r rs h = (rise_first f r rs h).0
rise_floor f (x ∷ xs) r rs h =
    let p = rise_first f x (xs ++ r ∷ rs) h in
    let q = rise_floor (suc x.head) xs r rs p.1 in
    omega (arith, p.0, q)

-- no record in front of one whose head is at most c answers
pub rise_skip : (f c : ℕ) (xs : List Headed) (r : Headed) (rs : List Headed) → rising f (xs ++ r ∷ rs) ≡ true → r.head ≤ c
    → items_of (r ∷ rs) c ≡ items_of (xs ++ r ∷ rs) c
rise_skip f c [] r rs h i = refl
rise_skip f c (x ∷ xs) r rs h i =
    let p = rise_first f x (xs ++ r ∷ rs) h in
    let q : suc x.head ≤ r.head = rise_floor (suc x.head) xs r rs p.1 in
    let m : items_of (x ∷ xs ++ r ∷ rs) c ≡ items_of (xs ++ r ∷ rs) c = miss x (xs ++ r ∷ rs) c (λ e. omega (arith, q, i, e)) in
    rise_skip (suc x.head) c xs r rs p.1 i ∙ sym m

-- no record answers where the heads begin above c
pub rise_none : (f c : ℕ) (rs : List Headed) → rising f rs ≡ true → c < f → items_of rs c ≡ none
unfolding items_of
rise_none f c [] h i = refl
rise_none f c (r ∷ rs) h i =
    let p = rise_first f r rs h in
    miss r rs c (λ e. omega (arith, p.0, i, e)) ∙ rise_none (suc r.head) c rs p.1 (omega (arith, p.0, i))
