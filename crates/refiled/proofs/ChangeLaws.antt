-- 42 and 43 by the length alone: any form of that length shows them. What an answer stands for gives the number beside a name.
use Prim.Native.Nat.{ℕ}
use native.Mathlib.Omega.{arith}
use mathlib.Core.Path.{◌≡◌, refl, sym, ap, ◌∙◌}
use mathlib.Core.Bool.{Bool, true, false, cond}
use mathlib.Core.List.{List, [], ◌∷◌}
use mathlib.Core.Option.{none, some}
use lib.ListN.{length, replicate}
use Rattle.std.proofs.lemmas.List.{length-replicate}
use lib.Dec.{eqb, ltb}
use borrow.Author.Tests.{ne_eqb}
use Rattle.std.specs.Prelude.{Result, Ok, Err}
use Rattle.lists.specs.Lists.{same_list}
use Rattle.answers.specs.Verdict.{Verdict, accepted, refused, next}
use Rattle.book_slots.specs.Book.{form_room}
use Rattle.book_answers.specs.declared.BookError.{BookError}
use Rattle.book_answers.specs.Calls.{fileable}
use Rattle.book_forms.specs.Forms.{filed_by}
use Rattle.refiled.specs.Refiled.{form_by, refiled_verdict, change_of, changed}
use Rattle.refiled.specs.Changes.{change_by, change_is, verdict_by, verdict_is, number_of_verdict}

-- the number beside a name is that of its verdict
number_is : (r : Result Bool BookError) → change_is r ≡ number_of_verdict (verdict_is r)
number_is (Ok true) = refl
number_is (Ok false) = refl
number_is (Err e) = refl

number_by : (n : ℕ) (same : Bool) → number_of_verdict (verdict_by n same) ≡ change_by n same
number_by n same = go (eqb n 0) (ltb form_room n)
  where
    go : (a b : Bool)
        → number_of_verdict (cond a (refused 42 0) (cond b (refused 43 0) (accepted same))) ≡ cond a (some 42) (cond b (some 43) (cond same none (some 0)))
    go true b = refl
    go false true = refl
    go false false = refl

number-changed : (words : List ℕ) (work : ℕ) (name : List ℕ) → number_of_verdict (refiled_verdict words work name) ≡ changed words work name
unfolding refiled_verdict changed
number-changed words work name = go (form_by words work name)
  where
    go : (v : Verdict (List ℕ)) → number_of_verdict (next v (λ form. accepted (same_list form name))) ≡ change_of name v
    go (accepted form) = refl
    go (refused n p) = refl

pub change-changed : (words : List ℕ) (work : ℕ) (name : List ℕ) (r : Result Bool BookError) → verdict_is r ≡ refiled_verdict words work name
    → change_is r ≡ changed words work name
change-changed words work name r e = number_is r ∙ ap number_of_verdict e ∙ number-changed words work name

-- what is known of a form is known of its length
abbrev told : Bool → Verdict (List ℕ) → Verdict Bool
told same v = next v (λ form. accepted same)

by_length : (same : Bool) (form : List ℕ) → verdict_by (length form) same ≡ told same (fileable form)
by_length same [] = refl
by_length same (c ∷ s) = rw (ne_eqb (length (c ∷ s)) 0 (λ h. omega arith)) (go (ltb form_room (length (c ∷ s))))
  where
    go : (b : Bool) → cond b (refused 43 0) (accepted same) ≡ told same (cond b (refused 43 0) (accepted (c ∷ s)))
    go true = refl
    go false = refl

module _ (n : ℕ) (same : Bool) {A : Type 0} (x : Result A BookError) (k : (form : List ℕ) → length form ≡ n → fileable form ≡ filed_by x form) where
  abbrev form : List ℕ
  form = replicate n 0

  known : verdict_by n same ≡ told same (filed_by x form)
  known =
      let long : length form ≡ n = length-replicate n 0 in
      ap (λ (m : ℕ). verdict_by m same) (sym long) ∙ by_length same form ∙ ap (told same) (k form long)

  both : (r : Result Bool BookError) → verdict_is r ≡ verdict_by n same → (verdict_is r ≡ verdict_by n same) × (change_is r ≡ change_by n same)
  both r e = (e, number_is r ∙ ap number_of_verdict e ∙ number_by n same)

  pub refused_change : (e : BookError) → x ≡ Err e → (verdict_is (Err e) ≡ verdict_by n same) × (change_is (Err e) ≡ change_by n same)
  refused_change e f = both (Err e) (sym (rw f at known))

  pub form_change : (a : A) → x ≡ Ok a → (verdict_is (Ok same) ≡ verdict_by n same) × (change_is (Ok same) ≡ change_by n same)
  form_change a f = both (Ok same) (sym (rw f at known))
