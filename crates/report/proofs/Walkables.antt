-- The labels of an accepted name are walked: 5, 6 and 7 let them pass.
use Prim.Native.Nat.{ℕ, suc, ◌+◌, ◌≤◌}
use native.Mathlib.Omega.{arith}
use mathlib.Core.Path.{◌≡◌, refl, ap, ◌∙◌}
use mathlib.Core.Bool.{Bool, true, false, not, cond}
use mathlib.Core.List.{List, [], ◌∷◌}
use mathlib.Core.Option.{Option, none, some}
use lib.ListN.{length}
use lib.Dec.{ltb}
use borrow.Author.Tests.{ltb-false}
use Rattle.lists.specs.Lists.{on_some, place_with}
use Rattle.lists.specs.Laws.{Every}
use Rattle.limits.specs.Limits.{most_input, most_worked, least_work}
use Rattle.answers.specs.Verdict.{accepted, refused, next}
use Rattle.ending.specs.Numbers.{next_accepted}
use Rattle.table.specs.Table.{Table}
use Rattle.table.specs.Layout.{parse, the_table}
use Rattle.scalar.specs.Scalar.{is_scalar}
use Rattle.tokens.specs.Scan.{steps, first_disallowed}
use Rattle.tokens.specs.Tokens.{Token, tokens_of, worked, normal}
use Rattle.label.specs.Judge.{judge}
use Rattle.name.specs.Label.{Label, admitted, judged, label_verdict, label_by}
use Rattle.name.specs.Permitted.{accepted_by}
use Rattle.name.specs.Name.{labels_of, labels_verdict, name_before15}
use Rattle.token_walk.specs.Walk.{Walkable}
use Rattle.token_walk.proofs.Nexting.{allowed_moved}
use Rattle.report_walk.specs.Reportable.{Reportable}

never : {A : Type 0} {B : Type 0} (n p : ℕ) (a : A) → refused n p ≡ accepted a → B
never n p a e = absurd (let z : ◌≡◌ {A = ℕ} 0 1 = cc in omega arith)

-- tokens that 6 and 7 let pass
judged-passes : (t : Table) (done place : ℕ) (ts : List Token) (x : Label) → judged t done place ts ≡ accepted x → (1 ≤ length ts) × (worked t ts ≤ most_worked)
unfolding judged
judged-passes t done place [] x e = never 6 place x e
judged-passes t done place (y ∷ ts) x e = (omega arith, go (ltb most_worked (done + worked t (y ∷ ts))) refl e)
  where
    go : (b : Bool) → ltb most_worked (done + worked t (y ∷ ts)) ≡ b
        → cond b (refused 7 place) (next (judge t place (normal t (y ∷ ts))) (λ k. accepted (record { tokens = normal t (y ∷ ts); kind = k; worked = worked t (y ∷ ts) }))) ≡ accepted x
        → worked t (y ∷ ts) ≤ most_worked
    go true q f = never 7 place x f
    go false q f = omega (arith, ltb-false most_worked (done + worked t (y ∷ ts)) q)

label_walkable : (t : Table) (start done place : ℕ) (l : List ℕ) (x : Label) → label_verdict t start done place l ≡ accepted x → Walkable t l
unfolding label_verdict
label_walkable t start done place l x e = go (first_disallowed start (steps t l)) refl e
  where
    go : (o : Option ℕ) → first_disallowed start (steps t l) ≡ o → on_some o (refused 5) (judged t done place (tokens_of (steps t l))) ≡ accepted x → Walkable t l
    go (some i) q f = never 5 i x f
    go none q f =
        let k = judged-passes t done place (tokens_of (steps t l)) x f in
        record { tokens = k.0; allowed = allowed_moved start 0 (steps t l) q; short = k.1 }

labels_walkable : (g : ℕ) (t : Table) (start done place : ℕ) (ls : List (List ℕ)) (xs : List Label) → labels_verdict g t start done place ls ≡ accepted xs
    → Every (Walkable t) ls
unfolding labels_verdict
labels_walkable g t start done place [] xs e = tt
labels_walkable g t start done place (l ∷ ls) xs e =
    let (x, p, q) = next_accepted (label_by g t start done place l) _ xs e in
    let (ys, r, z) = next_accepted (labels_verdict g t (start + length l + 1) (done + x.worked + 1) (suc place) ls) _ xs q in (
      label_walkable t start done place l x (accepted_by g t start done place l x p).0,
      labels_walkable g t (start + length l + 1) (done + x.worked + 1) (suc place) ls ys r,
    )

-- what 1 to 3 let pass
record Passed (words input : List ℕ) (work : ℕ) (t : Table) : Type 0 where
  parses : parse words ≡ some t
  enough : least_work ≤ work
  short : length input ≤ most_input

admitted-passes : (words input : List ℕ) (work : ℕ) (t : Table) → admitted words work input ≡ accepted t → Passed words input work t
unfolding admitted
admitted-passes words input work t e = first (parse words) refl e
  where
    fourth : (u : Table) (o : Option ℕ) → on_some o (refused 4) (accepted u) ≡ accepted t → u ≡ t
    fourth u none f = cc
    fourth u (some i) f = never 4 i t f

    third : (u : Table) (b : Bool) → ltb most_input (length input) ≡ b
        → cond b (refused 3 0) (on_some (place_with (λ c. not (is_scalar c)) 0 input) (refused 4) (accepted u)) ≡ accepted t
        → (length input ≤ most_input) × (u ≡ t)
    third u true q f = never 3 0 t f
    third u false q f = (ltb-false most_input (length input) q, fourth u (place_with (λ c. not (is_scalar c)) 0 input) f)

    second : (u : Table) (b : Bool) → ltb work least_work ≡ b
        → cond b (refused 2 0)
        (cond (ltb most_input (length input)) (refused 3 0) (on_some (place_with (λ c. not (is_scalar c)) 0 input) (refused 4) (accepted u))) ≡ accepted t
        → (least_work ≤ work) × ((length input ≤ most_input) × (u ≡ t))
    second u true q f = never 2 0 t f
    second u false q f = (ltb-false work least_work q, third u (ltb most_input (length input)) refl f)

    first : (o : Option Table) → parse words ≡ o
        → on_some o
        (λ u.
        cond (ltb work least_work) (refused 2 0)
        (cond (ltb most_input (length input)) (refused 3 0) (on_some (place_with (λ c. not (is_scalar c)) 0 input) (refused 4) (accepted u))))
        (refused 1 0) ≡ accepted t
        → Passed words input work t
    first none q f = never 1 0 t f
    first (some u) q f =
        let s = second u (ltb work least_work) refl f in
        record { parses = q ∙ ap some s.1.1; enough = s.0; short = s.1.0 }

module _ (g : ℕ) (words input : List ℕ) (work : ℕ) (xs : List Label) (e : name_before15 g words input work ≡ accepted xs) where
  -- the labels of an accepted name
  pub accepted_labels : Every (Walkable (the_table words)) (labels_of input)
  unfolding name_before15 the_table
  accepted_labels =
      let (t, p, q) = next_accepted (admitted words work input) _ xs e in
      rw (admitted-passes words input work t p).parses (labels_walkable g t 0 0 0 (labels_of input) xs q)

  pub reportable : 1 ≤ length input → Reportable words input work
  unfolding name_before15
  reportable h =
      let (t, p, q) = next_accepted (admitted words work input) _ xs e in
      let k = admitted-passes words input work t p in
      record { table = rw k.parses; enough = k.enough; short = k.short; some_name = h; labels = accepted_labels }
