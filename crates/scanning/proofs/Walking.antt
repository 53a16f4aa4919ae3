-- The steps of a label one after another: the step at a place, and the steps before it.
use Prim.Native.Nat.{ℕ, zero, suc, pred, ◌+◌, ◌-◌, ◌≤◌, ◌<◌}
use native.Mathlib.Omega.{arith}
use native.Mathlib.Numerals.{add-one}
use mathlib.Core.Path.{◌≡◌, refl, sym, ◌∙◌, ap}
use mathlib.Core.Bool.{Bool, true, false}
use mathlib.Core.List.{List, [], ◌∷◌, ◌++◌, append-nil, append_assoc}
use mathlib.Core.Option.{Option, none, some}
use lib.ListN.{length, get_or, take, drop, length-drop, drop_of_length-le}
use lib.Seq.{drop-drop, take_all}
use Rattle.table.specs.Table.{Table}
use Rattle.table.specs.Lookup.{in_ranges, items_of}
use Rattle.finder.specs.Emoji.{Found, find}
use Rattle.finder.specs.Matching.{takes-fits}
use Rattle.finder.specs.Finding.{find_best}
use Rattle.tokens.specs.Scan.{Step, emoji, text, ignored, disallowed, width, codepoint_step, step_at, steps_from, steps, first_disallowed}
use Rattle.scanning.specs.Scanning.{first_step}

-- the step at the start of a rest that is not empty
module _ (t : Table) where
  pub first_found : (rest : List ℕ) (f : Found) → 1 ≤ length rest → find t.emoji rest ≡ some f → first_step t rest ≡ emoji f
  unfolding first_step step_at
  first_found [] f h e = absurd (omega arith)
  first_found (c ∷ rest) f h e = rw e

  pub first_alone : (rest : List ℕ) → 1 ≤ length rest → find t.emoji rest ≡ none → first_step t rest ≡ codepoint_step t (get_or rest 0 0)
  unfolding first_step step_at
  first_alone [] h e = absurd (omega arith)
  first_alone (c ∷ rest) h e = rw e

-- a step takes one codepoint or more, and no more than there are
pub codepoint_width : (t : Table) (c : ℕ) → width (codepoint_step t c) ≡ 1
unfolding codepoint_step
codepoint_width t c = go (in_ranges c t.valid) refl (items_of t.mapped c) refl (in_ranges c t.ignored) refl
  where
    go : (v : Bool) → in_ranges c t.valid ≡ v → (o : Option (List ℕ)) → items_of t.mapped c ≡ o → (i : Bool) → in_ranges c t.ignored ≡ i
        → width (codepoint_step t c) ≡ 1
    go true p o q i r = rw p
    go false p (some s) q i r = rw (p, q)
    go false p none q true r = rw (p, q, r)
    go false p none q false r = rw (p, q, r)

record Wide (t : Table) (rest : List ℕ) : Type 0 where
  low : 1 ≤ width (first_step t rest)
  high : width (first_step t rest) ≤ length rest

step_wide : (t : Table) (rest : List ℕ) → 1 ≤ length rest → Wide t rest
step_wide t rest h = go (find t.emoji rest) refl
  where
    go : (o : Option Found) → find t.emoji rest ≡ o → Wide t rest
    go none e =
        let s : width (first_step t rest) ≡ 1 = ap width (first_alone t rest h e) ∙ codepoint_width t (get_or rest 0 0) in
        record { low = omega arith; high = omega arith }
    go (some f) e =
        let s : width (first_step t rest) ≡ f.taken.length = ap width (first_found t rest f h e) in
        let b = find_best t.emoji rest f e in
        let i = takes-fits (get_or t.emoji b.place []) rest f.taken b.taken in
        record { low = omega (arith, b.some-taken); high = omega (arith, i.inside) }

-- the steps behind the codepoints that a step takes
steps_skip : (t : Table) (n : ℕ) (l : List ℕ) → steps_from t n l ≡ steps_from t 0 (drop n l)
unfolding steps_from
steps_skip t zero l = refl
steps_skip t (suc n) [] = refl
steps_skip t (suc n) (c ∷ l) = steps_skip t n l

steps_first : (t : Table) (rest : List ℕ) → 1 ≤ length rest
    → steps_from t 0 rest ≡ first_step t rest ∷ steps_from t 0 (drop (width (first_step t rest)) rest)
unfolding steps_from first_step
steps_first t [] h = absurd (omega arith)
steps_first t (c ∷ rest) h =
    let k : ℕ = width (step_at t c rest) in
    let low : 1 ≤ k = (step_wide t (c ∷ rest) h).low in
    let e : k ≡ suc (pred k) = omega arith in
    let d : drop k (c ∷ rest) ≡ drop (pred k) rest = ap (λ (n : ℕ). drop n (c ∷ rest)) e in
    rw d (ap (λ (ss : List Step). step_at t c rest ∷ ss) (steps_skip t (pred k) rest))

-- the rest of a label, as it is lent
pub rest_is : (l : List ℕ) (at : ℕ) → take (length l - at) (drop at l) ≡ drop at l
rest_is l at = take_all (length l - at) (drop at l) (simp length-drop (omega arith))

-- behind a step that is not disallowed the search for a disallowed one goes on
disallowed_next : (at : ℕ) (s : Step) (ss : List Step) → (s ≡ disallowed → ⊥) → first_disallowed at (s ∷ ss) ≡ first_disallowed (at + width s) ss
unfolding first_disallowed
disallowed_next at (emoji f) ss h = refl
disallowed_next at (text a) ss h = rw (add-one at)
disallowed_next at ignored ss h = rw (add-one at)
disallowed_next at disallowed ss h = absurd (h refl)

-- the step at the place `at`
abbrev pub step_here : Table → List ℕ → ℕ → Step
step_here t l at = first_step t (drop at l)

-- the steps before the place `at` are these, and none of them is disallowed
pub record Walked (t : Table) (l : List ℕ) (done : List Step) (at : ℕ) : Type 0 where
  pub inside : at ≤ length l
  pub split : steps t l ≡ done ++ steps_from t 0 (drop at l)
  pub search : first_disallowed 0 (steps t l) ≡ first_disallowed at (steps_from t 0 (drop at l))

module _ (t : Table) (l : List ℕ) where
  pub walked_start : Walked t l [] 0
  unfolding steps
  walked_start = record { inside = omega arith; split = refl; search = refl }

  module _ (at : ℕ) (h : at < length l) where
    abbrev here : Step
    here = step_here t l at

    left : 1 ≤ length (drop at l)
    left = simp length-drop (omega arith)

    pub walked_left : 1 ≤ length (take (length l - at) (drop at l))
    walked_left = rw (rest_is l at) left

    first : steps_from t 0 (drop at l) ≡ here ∷ steps_from t 0 (drop (at + width here) l)
    first = steps_first t (drop at l) left ∙ rw (drop-drop (width here) at l)

    pub walked-taken : (k : ℕ) → k ≡ width here → (1 ≤ k) × (at + k ≤ length l)
    walked-taken k e =
        let wide = step_wide t (drop at l) left in
        let room : length (drop at l) ≡ length l - at = length-drop at l in
        (omega (arith, wide.low), omega (arith, wide.high))

    module _ (done : List Step) (p : Walked t l done at) where
      pub walked_more : (k : ℕ) → k ≡ width here → (here ≡ disallowed → ⊥) → Walked t l (done ++ here ∷ []) (at + k)
      walked_more k e allowed =
          let s : List Step = steps_from t 0 (drop (at + width here) l) in
          let one : (done ++ here ∷ []) ++ s ≡ done ++ here ∷ s = append_assoc done (here ∷ []) s in
          record {
            inside = (walked-taken k e).1;
            split = rw e (p.split ∙ ap (λ (ss : List Step). done ++ ss) first ∙ sym one);
            search = rw e (p.search ∙ ap (first_disallowed at) first ∙ disallowed_next at here s allowed);
          }

      pub walked_disallowed : here ≡ disallowed → first_disallowed 0 (steps t l) ≡ some at
      unfolding first_disallowed
      walked_disallowed e = p.search ∙ ap (first_disallowed at) first ∙ rw e refl

  pub walked_stop : (done : List Step) (at : ℕ) → Walked t l done at → length l ≤ at → (steps t l ≡ done) × (first_disallowed 0 (steps t l) ≡ none)
  unfolding steps_from first_disallowed
  walked_stop done at p h =
      let none_left : drop at l ≡ [] = drop_of_length-le l h in
      (p.split ∙ rw none_left (append-nil done), p.search ∙ rw none_left refl)
