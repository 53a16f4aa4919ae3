-- What one step of the walk over a section tells: the section is well formed where a record comes next and the rest behind it is.
use Prim.Native.Nat.{ℕ, suc, ◌+◌, ◌-◌, ◌≤◌, ◌<◌}
use native.Mathlib.Omega.{arith}
use native.Mathlib.Numerals.{add-one}
use mathlib.Core.Path.{◌≡◌, refl}
use mathlib.Core.Bool.{Bool, true, false, not, ◌&&◌}
use mathlib.Core.List.{List, [], ◌∷◌}
use mathlib.Core.Option.{Option, none, some}
use lib.ListN.{length, get_or, take, drop, length-drop, drop_of_length-le}
use lib.Seq.{drop-cons, drop-drop, take_all}
use lib.Dec.{leb, ltb, eqb}
use borrow.Author.Tests.{ltb-true, ltb-false, leb-true, leb-false, le-leb, lt-leb, ne_eqb}
use Rattle.lists.specs.Lists.{is_some, and_then}
use Rattle.table.specs.Table.{Whole}
use Rattle.table.specs.Layout.{only_if, in_front, excluded, Tail, confused_part, wholes}
use Rattle.whole_sizes.specs.Wholes.{size_if, whole_size, wholes_fit}
use Rattle.table.proofs.Fuels.{wholes-next}

-- The test f of the words comes to: a record of n words comes next, and the test of the rest.
abbrev Steps : (List ℕ → Bool) → ℕ → List ℕ → Type 0
Steps f n ws = f ws ≡ (not (eqb n 0) && f (drop n ws))

pub steps_if : {x : Bool} (f : List ℕ → Bool) (b : Bool) (k : ℕ) (ws : List ℕ) → 0 < k → x ≡ (b && f (drop k ws)) →
    x ≡ (not (eqb (size_if b k) 0) && f (drop (size_if b k) ws))
steps_if f true k ws h e = rw (ne_eqb k 0 (λ q. omega arith)) e
steps_if f false k ws h e = e

-- two tests of the same fact
pub leb-same : (a b c d : ℕ) → (a ≤ b → c ≤ d) → (c ≤ d → a ≤ b) → leb a b ≡ leb c d
leb-same a b c d f g = go (leb c d) refl
  where
    go : (t : Bool) → leb c d ≡ t → leb a b ≡ t
    go true e = le-leb a b (g (leb-true c d e))
    go false e = lt-leb a b (go₂ (leb a b) refl)
      where
        go₂ : (t : Bool) → leb a b ≡ t → b < a
        go₂ true h = absurd (omega (arith, f (leb-true a b h), leb-false c d e))
        go₂ false h = leb-false a b h

-- a record in front of the rest is there where its test passes and the rest is there
some_front : {A : Type 0} (b : Bool) (x : A) (o : Option (List A)) → is_some (only_if b (in_front x o)) ≡ (b && is_some o)
some_front true x none = refl
some_front true x (some xs) = refl
some_front false x o = refl

some-tail : {A B : Type 0} (b : Bool) (a : A) (f : A → Option (List B)) (g : A → B) →
    is_some (and_then (only_if b (some a)) (λ c. in_front (g c) (f c))) ≡ (b && is_some (f a))
some-tail true a f g = some_front true (g a) (f a)
some-tail false a f g = refl

no_tail : (A : Type 0) (b : Bool) → is_some {A = A} (only_if b none) ≡ false
no_tail A true = refl
no_tail A false = refl

wholes_front : (n : ℕ) (ws : List ℕ) → n < length ws →
    is_some (wholes (length (n ∷ ws)) (n ∷ ws))
    ≡ (leb (get_or ws n 0) (length (drop (suc n) ws))
    && is_some (wholes (length (drop (get_or ws n 0) (drop (suc n) ws))) (drop (get_or ws n 0) (drop (suc n) ws))))
unfolding confused_part
wholes_front n ws h =
    rw (wholes-next n ws, le-leb n (length ws) (omega arith), drop-cons ws n 0 h)
    (some-tail (leb (get_or ws n 0) (length (drop (suc n) ws))) (record { confused = take (get_or ws n 0) (drop (suc n) ws); rest = drop (get_or ws n 0) (drop (suc n) ws) }) (λ (c : Tail). wholes (length c.rest) c.rest) (λ (c : Tail). record { valid = take n ws; confused = c.confused }))

wholes_step : (w : ℕ) (ws : List ℕ) → Steps wholes_fit (whole_size (w ∷ ws)) (w ∷ ws)
unfolding wholes_fit whole_size confused_part
wholes_step n ws = go (ltb n (length ws)) refl
  where
    go : (b : Bool) → ltb n (length ws) ≡ b → Steps wholes_fit (whole_size (n ∷ ws)) (n ∷ ws)
    go true e =
        let h : n < length ws = ltb-true _ _ e in
        let at : get_or (n ∷ ws) (n + 1) 0 ≡ get_or ws n 0 = rw add-one in
        let room : leb (n + 2 + get_or ws n 0) (length (n ∷ ws)) ≡ leb (get_or ws n 0) (length (drop (suc n) ws)) = leb-same (n + 2 + get_or ws n 0) (length (n ∷ ws)) (get_or ws n 0) (length (drop (suc n) ws)) (λ i. simp length-drop (omega arith)) (λ i. omega (arith, length-drop (suc n) ws)) in
        let size : n + 2 + get_or ws n 0 ≡ suc (suc n + get_or ws n 0) = omega arith in
        let rest : drop (n + 2 + get_or ws n 0) (n ∷ ws) ≡ drop (get_or ws n 0) (drop (suc n) ws) = rw (size, drop-drop) in
        rw (at, room)
        (steps_if wholes_fit (leb (get_or ws n 0) (length (drop (suc n) ws))) (n + 2 + get_or ws n 0) (n ∷ ws) (omega arith) (rw rest (wholes_front n ws h)))
    go false e =
        let h : length ws ≤ n = ltb-false _ _ e in
        rw (lt-leb (n + 2 + get_or (n ∷ ws) (n + 1) 0) (length (n ∷ ws)) (omega arith), drop_of_length-le ws h) (no_tail (List Whole) (leb n (length ws)))

-- A record lies within the words.
pub size_le : (b : Bool) (k m : ℕ) → (b ≡ true → k ≤ m) → size_if b k ≤ m
size_le true k m h = h refl
size_le false k m h = omega arith

pub last_true : (a b : Bool) → (a && b) ≡ true → b ≡ true
last_true true b e = e
last_true false b e = let z : ◌≡◌ {A = ℕ} 0 1 = cc in absurd (omega arith)

pub first_true : (a b : Bool) → (a && b) ≡ true → a ≡ true
first_true true b e = refl
first_true false b e = e

pub whole-fits : (ws : List ℕ) → whole_size ws ≤ length ws
unfolding whole_size
whole-fits ws =
    let n = get_or ws 0 0 + 2 + get_or ws (get_or ws 0 0 + 1) 0 in
    size_le (leb n (length ws)) n (length ws) (λ e. leb-true _ _ e)

-- the part of the words from `at` on
pub part_tail : (ws : List ℕ) (at : ℕ) → take (length ws - at) (drop at ws) ≡ drop at ws
part_tail ws at = take_all (length ws - at) (drop at ws) (simp length-drop (omega arith))

-- The walk at `at`: nothing is left, no record comes next, or one does and the rest behind it decides.
pub walk_end : (ws : List ℕ) (at : ℕ) → length ws ≤ at → wholes_fit (drop at ws) ≡ true
unfolding wholes_fit
walk_end ws at h = rw (drop_of_length-le ws h)

-- a step at `at`, for a test f of the words that comes to: a record comes next, and a test g of the rest
module _ (f g : List ℕ → Bool) (size : List ℕ → ℕ)
    (h : (w : ℕ) (ws : List ℕ) → f (w ∷ ws) ≡ (not (eqb (size (w ∷ ws)) 0) && g (drop (size (w ∷ ws)) (w ∷ ws)))) (ws : List ℕ) (at : ℕ) (i : at < length ws) where
  pub at_step : f (drop at ws) ≡ (not (eqb (size (drop at ws)) 0) && g (drop (at + size (drop at ws)) ws))
  at_step =
      let e : drop at ws ≡ get_or ws at 0 ∷ drop (suc at) ws = drop-cons ws at 0 i in
      let d : drop (size (drop at ws)) (drop at ws) ≡ drop (at + size (drop at ws)) ws = drop-drop (size (drop at ws)) at ws in
      let s : f (drop at ws) ≡ (not (eqb (size (drop at ws)) 0) && g (drop (size (drop at ws)) (drop at ws))) = rw e (h (get_or ws at 0) (drop (suc at) ws)) in
      rw d at s

  pub at_more : (n : ℕ) → n ≡ size (drop at ws) → 0 < n → f (drop at ws) ≡ g (drop (at + n) ws)
  at_more n e p =
      let q : eqb (size (drop at ws)) 0 ≡ false = ne_eqb (size (drop at ws)) 0 (λ z. omega arith) in
      rw e (rw q at at_step)

  pub at_none : 0 ≡ size (drop at ws) → f (drop at ws) ≡ false
  at_none e = rw (← e) at at_step

pub walk_more : (ws : List ℕ) (at n : ℕ) → at < length ws → n ≡ whole_size (drop at ws) → 0 < n → wholes_fit (drop at ws) ≡ wholes_fit (drop (at + n) ws)
walk_more ws at n i = at_more wholes_fit wholes_fit whole_size wholes_step ws at i n

pub walk_none : (ws : List ℕ) (at : ℕ) → at < length ws → 0 ≡ whole_size (drop at ws) → wholes_fit (drop at ws) ≡ false
walk_none = at_none wholes_fit wholes_fit whole_size wholes_step

-- The sizes, test by test.
module _ (ws : List ℕ) where
  pub whole_short : length ws < get_or ws 0 0 + 2 + get_or ws (get_or ws 0 0 + 1) 0 → 0 ≡ whole_size ws
  unfolding whole_size
  whole_short h = rw (lt-leb (get_or ws 0 0 + 2 + get_or ws (get_or ws 0 0 + 1) 0) (length ws) h)

  pub whole_there : get_or ws 0 0 + 2 + get_or ws (get_or ws 0 0 + 1) 0 ≤ length ws → get_or ws 0 0 + 2 + get_or ws (get_or ws 0 0 + 1) 0 ≡ whole_size ws
  unfolding whole_size
  whole_there h = rw (le-leb (get_or ws 0 0 + 2 + get_or ws (get_or ws 0 0 + 1) 0) (length ws) h)

-- The single record of the exclusions.
pub excluded-none : (ws : List ℕ) → length ws ≡ 0 → false ≡ is_some (excluded ws)
unfolding excluded
excluded-none [] h = refl
excluded-none (n ∷ ws) h = absurd (omega arith)

pub excluded-one : (ws : List ℕ) → 0 < length ws → eqb (get_or ws 0 0) (length ws - 1) ≡ is_some (excluded ws)
unfolding excluded
excluded-one [] h = absurd (omega arith)
excluded-one (n ∷ ws) h = let e : suc (length ws) - 1 ≡ length ws = omega arith in rw e (go (eqb n (length ws)))
  where
    go : (b : Bool) → b ≡ is_some (only_if b (some ws))
    go true = refl
    go false = refl
