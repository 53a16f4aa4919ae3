-- Sequences whose first items do not fall, none of them FE0F: what a search from e on may leave out.
use Prim.Native.Nat.{ℕ, zero, suc, ◌+◌, ◌≤◌, ◌<◌}
use native.Mathlib.Omega.{arith}
use mathlib.Core.Path.{◌≡◌, refl}
use mathlib.Core.Bool.{true, not, ◌&&◌}
use mathlib.Core.List.{List, [], ◌∷◌, ◌++◌}
use lib.ListN.{length, get_or, take, drop}
use lib.Seq.{drop-cons}
use lib.Dec.{leb, eqb}
use borrow.Author.Tests.{leb-true, le-leb, eqb-false, ne_eqb}
use Rattle.lists.specs.Tests.{untrue}
use Rattle.table.specs.Part.{SequenceHere}
use Rattle.table.proofs.Lookups.{both}
use Rattle.firsts.specs.Firsts.{optional, first_of, steady, Avoids}

-- the first item of a sequence among the words
first_word : (n i : ℕ) (ws : List ℕ) → 1 ≤ n → i < length ws → first_of (take n (drop i ws)) ≡ get_or ws i 0
first_word zero i ws p h = absurd (omega arith)
first_word (suc n) i ws p h = rw (drop-cons ws i 0 h)

pub first_item : (ws : List ℕ) (at : ℕ) (xs : List (List ℕ)) (x : SequenceHere ws at xs) → first_of x.first ≡ get_or ws (at + 1) 0
first_item ws at xs x = rw x.items (first_word (get_or ws at 0) (at + 1) ws x.low (omega (arith, x.low, x.fits)))

-- the first sequence, and the rest
pub record SteadyFirst (floor : ℕ) (s : List ℕ) (ss : List (List ℕ)) : Type 0 where
  pub above : floor ≤ first_of s
  pub plain : first_of s ≡ optional → ⊥
  pub rest : steady (first_of s) ss ≡ true

pub steady-first : (f : ℕ) (s : List ℕ) (ss : List (List ℕ)) → steady f (s ∷ ss) ≡ true → SteadyFirst f s ss
unfolding steady
steady-first f s ss h =
    let p = both (leb f (first_of s) && not (eqb (first_of s) optional)) (steady (first_of s) ss) h in
    let q = both (leb f (first_of s)) (not (eqb (first_of s) optional)) p.0 in
    record { above = leb-true _ _ q.0; plain = eqb-false _ _ (untrue (eqb (first_of s) optional) q.1); rest = p.1 }

steady_lower : (f g : ℕ) (ss : List (List ℕ)) → f ≤ g → steady g ss ≡ true → steady f ss ≡ true
unfolding steady
steady_lower f g [] i h = refl
steady_lower f g (s ∷ ss) i h =
    let p = steady-first g s ss h in
    rw (le-leb f (first_of s) (omega (arith, p.above)), ne_eqb (first_of s) optional p.plain, p.rest)

pub steady_rest : (s : List ℕ) (ss : List (List ℕ)) → steady 0 (s ∷ ss) ≡ true → steady 0 ss ≡ true
steady_rest s ss h = steady_lower 0 (first_of s) ss (omega arith) (steady-first 0 s ss h).rest

-- of two parts the second
pub steady-behind : (xs ys : List (List ℕ)) → steady 0 (xs ++ ys) ≡ true → steady 0 ys ≡ true
steady-behind [] ys h = h
steady-behind (x ∷ xs) ys h = steady-behind xs ys (steady_rest x (xs ++ ys) h)

steady_floor : (f : ℕ) (xs : List (List ℕ)) (y : List ℕ) (ys : List (List ℕ)) → steady f (xs ++ y ∷ ys) ≡ true → f ≤ first_of y
steady_floor f [] y ys h = (steady-first f y ys h).above
steady_floor f (x ∷ xs) y ys h =
    let p = steady-first f x (xs ++ y ∷ ys) h in
    let q = steady_floor (first_of x) xs y ys p.rest in
    omega (arith, p.above, q)

-- no sequence in front of one whose first item is below e can match
pub avoid_before : (f e : ℕ) (xs : List (List ℕ)) (y : List ℕ) (ys : List (List ℕ)) → steady f (xs ++ y ∷ ys) ≡ true → first_of y < e → Avoids e xs
unfolding Avoids
avoid_before f e [] y ys h i = tt
avoid_before f e (x ∷ xs) y ys h i =
    let p = steady-first f x (xs ++ y ∷ ys) h in
    let q : first_of x ≤ first_of y = steady_floor (first_of x) xs y ys p.rest in
    (λ z. omega (arith, q, i, z), p.plain, avoid_before (first_of x) e xs y ys p.rest i)

avoid_above : (f e : ℕ) (ss : List (List ℕ)) → steady f ss ≡ true → e < f → Avoids e ss
unfolding Avoids
avoid_above f e [] h i = tt
avoid_above f e (s ∷ ss) h i =
    let p = steady-first f s ss h in
    (λ z. omega (arith, p.above, i, z), p.plain, avoid_above (first_of s) e ss p.rest (omega (arith, p.above, i)))

-- none from one whose first item is above e on can
pub avoid_behind : (e : ℕ) (s : List ℕ) (ss : List (List ℕ)) → steady 0 (s ∷ ss) ≡ true → e < first_of s → Avoids e (s ∷ ss)
unfolding Avoids
avoid_behind e s ss h i =
    let p = steady-first 0 s ss h in
    (λ z. omega (arith, i, z), p.plain, avoid_above (first_of s) e ss p.rest i)

-- one sequence more
pub avoid_more : (e : ℕ) (xs : List (List ℕ)) (y : List ℕ) → Avoids e xs → (first_of y ≡ e → ⊥) → (first_of y ≡ optional → ⊥) → Avoids e (xs ++ y ∷ [])
unfolding Avoids
avoid_more e [] y a p q = (p, q, tt)
avoid_more e (x ∷ xs) y a p q = (a.0, a.1, avoid_more e xs y a.2 p q)
