-- The loop that matches a sequence against an input: what is taken so far and what is left to match.
use Prim.Native.Nat.{ℕ, zero, suc, ◌+◌, ◌≤◌, ◌<◌}
use native.Mathlib.Nat.{zero-add}
use native.Mathlib.Omega.{arith}
use native.Mathlib.Numerals.{add-one}
use mathlib.Core.Path.{◌≡◌, refl, sym, ◌∙◌, ap}
use mathlib.Core.Bool.{Bool, true, false, cond}
use mathlib.Core.List.{List, ◌∷◌}
use mathlib.Core.Option.{Option, none, some, map}
use lib.ListN.{length, get_or, take, drop, drop_of_length-le}
use lib.Seq.{drop-cons, get_or-take}
use lib.Dec.{eqb, leb}
use borrow.Author.Tests.{eq-eqb, ne_eqb, eqb-true, eqb-false, leb-true, leb-false}
use Rattle.finder.specs.Emoji.{selector, selectors_in, Taken, one_more, one_selector, takes}
use Rattle.finder.specs.Took.{takes_selectors}
use Rattle.finder.specs.Shared.{Shared}

-- so many codepoints and FE0F more
abbrev ahead : ℕ → ℕ → Option Taken → Option Taken
ahead n s none = none
ahead n s (some k) = some (record { length = n + k.length; selectors = s + k.selectors })

ahead_none : (o : Option Taken) → ahead 0 0 o ≡ o
ahead_none none = refl
ahead_none (some k) = rw (zero-add k.length, zero-add k.selectors)

ahead-one : (n s : ℕ) (o : Option Taken) → ahead n s (map one_more o) ≡ ahead (n + 1) s o
ahead-one n s none = refl
ahead-one n s (some k) =
    let p : n + suc k.length ≡ n + 1 + k.length = omega arith in
    rw p

ahead-selector : (n s : ℕ) (o : Option Taken) → ahead n s (map one_selector o) ≡ ahead (n + 1) (s + 1) o
ahead-selector n s none = refl
ahead-selector n s (some k) =
    let p : n + suc k.length ≡ n + 1 + k.length = omega arith in
    let q : s + suc k.selectors ≡ s + 1 + k.selectors = omega arith in
    rw (p, q)

-- the input starts with e
abbrev pub Next : ℕ → List ℕ → ℕ → Type 0
Next e rest at = (at < length rest) × (get_or rest at 0 ≡ e)

-- i codepoints of the sequence are matched, with `at` codepoints of the input, some of them FE0F
pub record Walk (seq rest : List ℕ) (i at : ℕ) : Type 0 where
  pub low : i ≤ length seq
  pub room : at ≤ length rest
  pub selectors : ℕ
  pub so : takes seq rest ≡ ahead at selectors (takes (drop i seq) (drop at rest))

walk_start : (seq rest : List ℕ) → Walk seq rest 0 0
walk_start seq rest = record { low = omega arith; room = omega arith; selectors = 0; so = sym (ahead_none (takes seq rest)) }

-- an FE0F that the input lacks is left out, and nothing else is
takes_other : (e : ℕ) (seq rest : List ℕ) (at : ℕ) → (Next e rest at → ⊥)
    → takes (e ∷ seq) (drop at rest) ≡ cond (eqb e selector) (takes seq (drop at rest)) none
unfolding takes
takes_other e seq rest at other = go (leb (suc at) (length rest)) refl
  where
    go : (b : Bool) → leb (suc at) (length rest) ≡ b → takes (e ∷ seq) (drop at rest) ≡ cond (eqb e selector) (takes seq (drop at rest)) none
    go true p =
        let h : at < length rest = leb-true _ _ p in
        let d : drop at rest ≡ get_or rest at 0 ∷ drop (suc at) rest = drop-cons rest at 0 h in
        rw (d, ne_eqb e (get_or rest at 0) (λ q. other (h, sym q)))
    go false p =
        let h : length rest < suc at = leb-false _ _ p in
        let l : length rest ≤ at = omega arith in
        rw (drop_of_length-le rest l)

-- a sequence takes nothing where its first item is neither FE0F nor what the input starts with
pub takes_none : (e c : ℕ) (seq inp : List ℕ) → (e ≡ c → ⊥) → (e ≡ selector → ⊥) → takes (e ∷ seq) (c ∷ inp) ≡ none
unfolding takes
takes_none e c seq inp p q = rw (ne_eqb e c p, ne_eqb e selector q)

module _ (seq rest : List ℕ) (i at : ℕ) (w : Walk seq rest i at) (h : i < length seq) where
  abbrev e : ℕ
  e = get_or seq i 0

  abbrev s : ℕ
  s = w.selectors

  here : drop i seq ≡ e ∷ drop (i + 1) seq
  here = rw add-one (drop-cons seq i 0 h)

  more_selector : Next e rest at → e ≡ selector → Walk seq rest (i + 1) (at + 1)
  unfolding takes
  more_selector n p =
      let d : drop at rest ≡ get_or rest at 0 ∷ drop (at + 1) rest = rw add-one (drop-cons rest at 0 n.0) in
      let o : takes (drop i seq) (drop at rest) ≡ map one_selector (takes (drop (i + 1) seq) (drop (at + 1) rest)) =
      rw (here, d, eq-eqb e (get_or rest at 0) (sym n.1), eq-eqb e selector p) in
      record { low = omega arith; room = omega arith; selectors = s + 1; so = w.so ∙ ap (ahead at s) o ∙ ahead-selector at s (takes (drop (i + 1) seq) (drop (at + 1) rest)) }

  more_same : Next e rest at → (e ≡ selector → ⊥) → Walk seq rest (i + 1) (at + 1)
  unfolding takes
  more_same n p =
      let d : drop at rest ≡ get_or rest at 0 ∷ drop (at + 1) rest = rw add-one (drop-cons rest at 0 n.0) in
      let o : takes (drop i seq) (drop at rest) ≡ map one_more (takes (drop (i + 1) seq) (drop (at + 1) rest)) =
      rw (here, d, eq-eqb e (get_or rest at 0) (sym n.1), ne_eqb e selector p) in
      record { low = omega arith; room = omega arith; selectors = s; so = w.so ∙ ap (ahead at s) o ∙ ahead-one at s (takes (drop (i + 1) seq) (drop (at + 1) rest)) }

  pub more_equal : Next e rest at → Walk seq rest (i + 1) (at + 1)
  more_equal n = go (eqb e selector) refl
    where
      go : (b : Bool) → eqb e selector ≡ b → Walk seq rest (i + 1) (at + 1)
      go true p = more_selector n (eqb-true _ _ p)
      go false p = more_same n (eqb-false _ _ p)

  pub more_left : (Next e rest at → ⊥) → e ≡ selector → Walk seq rest (i + 1) at
  more_left n p =
      let o : takes (drop i seq) (drop at rest) ≡ takes (drop (i + 1) seq) (drop at rest) =
      rw (here, takes_other e (drop (i + 1) seq) rest at n, eq-eqb e selector p) in
      record { low = omega arith; room = w.room; selectors = s; so = w.so ∙ ap (ahead at s) o }

  pub walk_fails : (Next e rest at → ⊥) → (e ≡ selector → ⊥) → none ≡ takes seq rest
  walk_fails n p =
      let o : takes (drop i seq) (drop at rest) ≡ none =
      rw (here, takes_other e (drop (i + 1) seq) rest at n, ne_eqb e selector p) in
      sym (w.so ∙ ap (ahead at s) o)

-- what both start with is matched
walk_along : (seq rest : List ℕ) (k : ℕ) → Shared seq rest k → (j : ℕ) → j ≤ k → Walk seq rest j j
walk_along seq rest k w zero h = walk_start seq rest
walk_along seq rest k w (suc j) h =
    let below : j < k = omega arith in
    let equal : get_or rest j 0 ≡ get_or seq j 0
    = sym (get_or-take k rest j 0 below) ∙ ap (λ (l : List ℕ). get_or l j 0) (sym w.same) ∙ get_or-take k seq j 0 below in
    rw (← add-one j) (more_equal seq rest j j (walk_along seq rest k w j (omega arith)) (omega (arith, w.left)) (omega (arith, w.right), equal))

pub walk_shared : (seq rest : List ℕ) (k : ℕ) → Shared seq rest k → Walk seq rest k k
walk_shared seq rest k w = walk_along seq rest k w k (omega arith)

pub walk_end : (seq rest : List ℕ) (i at : ℕ) → Walk seq rest i at → length seq ≤ i
    → some (record { length = at; selectors = selectors_in (take at rest) }) ≡ takes seq rest
unfolding takes
walk_end seq rest i at w h =
    let s : ℕ = w.selectors in
    let o : takes (drop i seq) (drop at rest) ≡ some (record { length = 0; selectors = 0 }) = rw (drop_of_length-le seq h) in
    let p : ahead at s (some (record { length = 0; selectors = 0 })) ≡ some (record { length = at; selectors = s }) =
    let a : at + 0 ≡ at = omega arith in
    let b : s + 0 ≡ s = omega arith in
    rw (a, b) in
    let found : takes seq rest ≡ some (record { length = at; selectors = s }) = w.so ∙ ap (ahead at s) o ∙ p in
    let count : selectors_in (take at rest) ≡ s = takes_selectors seq rest (record { length = at; selectors = s }) found in
    rw count (sym found)
