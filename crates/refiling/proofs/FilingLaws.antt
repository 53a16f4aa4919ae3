-- The labels of a filed name one after another, and what they come to.
use Rattle.std.specs.Prelude.{Result, Ok, Err}
use Rattle.one_label.specs.declared.JudgedLabel.{JudgedLabel}
use Prim.Native.Nat.{ℕ, suc, ◌+◌, ◌-◌, ◌*◌, ◌≤◌, ◌<◌}
use native.Mathlib.Omega.{arith}
use mathlib.Core.Path.{◌≡◌, refl, sym, ap, ◌∙◌}
use mathlib.Core.Bool.{Bool, true, false, not, ◌&&◌, cond}
use mathlib.Core.List.{List, [], ◌∷◌, map}
use mathlib.Core.Option.{none, some}
use lib.ListN.{length, take, length-append}
use lib.Dec.{ltb}
use borrow.Author.Tests.{ne_eqb}
use Rattle.lists.specs.Lists.{place_with, join_with, split, same_list}
use Rattle.lists.specs.Splits.{split-some}
use Rattle.limits.specs.Limits.{least_work, most_input, most_worked}
use Rattle.answers.specs.Verdict.{Verdict, accepted, refused, next}
use Rattle.answers.specs.Values.{number_of, place_of}
use Rattle.answers.specs.declared.Kind.{Kind}
use Rattle.answers.specs.declared.Refusal.{Refusal}
use Rattle.answers.specs.declared.Refusal.TheVariants.{NotScalar}
use Rattle.table.specs.Table.{Table}
use Rattle.sections.specs.Laid.{Laid}
use Rattle.table.specs.Layout.{the_table}
use Rattle.sections.specs.declared.Sections.{Sections}
use Rattle.scalar.specs.Scalar.{is_scalar}
use Rattle.name.specs.Label.{Label, stop, answer, label_verdict, label_by}
use Rattle.name.specs.Permitted.{by_off}
use Rattle.name.specs.Name.{labels_of, labels_verdict, name_answer, name_before15}
use Rattle.name.specs.Parts.{label_at, LabelEnds, parts_from, most_label}
use Rattle.one_label.specs.Judged.{Accepts, Judges}
use Rattle.name.proofs.Admitting.{admitted_scalar, admitted-all}
use Rattle.name.proofs.Parting.{label-length, parts_next, parts_all, parts_none}
use Rattle.one_label.proofs.Said.{judged_accepted, judged_refused}
use Rattle.book_slots.specs.Book.{form_room}
use Rattle.book_answers.specs.Calls.{fileable}
use Rattle.book_answers.specs.declared.BookError.{BookError}
use Rattle.book_answers.specs.declared.BookError.TheVariants as book
use Rattle.refiled.specs.Refiled.{form_by, refiled_verdict, changed}
use Rattle.refiled.specs.Changes.{change_is, verdict_by, verdict_is}
use Rattle.refiled.proofs.ChangeLaws.{change-changed}
use Rattle.refiling.specs.declared.FiledForm.{FiledForm}
use Rattle.refiling.specs.Labels.{Filed, Refused, Form, filed_is, on_label, filing}
use Rattle.refiling.proofs.Joins.{alike, alike_joined}

-- one accepted label in front of others
label-next : (t : Table) (at done place len : ℕ) (same : Bool) (l : List ℕ) (ls : List (List ℕ)) (x : Label) (at' done' place' len' : ℕ) (same' : Bool)
    → label_verdict t at done place l ≡ accepted x → at + length l + 1 ≡ at' → done + x.worked + 1 ≡ done' → suc place ≡ place'
    → len + (length (answer x) + 1) ≡ len' → (same && same_list (answer x) l) ≡ same'
    → filing t at done place len same (l ∷ ls) ≡ filing t at' done' place' len' same' ls
unfolding filing
label-next t at done place len same l ls x at' done' place' len' same' e ea ed ep el es = rw (e, ea, ed, ep, el, es)

-- What is known before the label that starts at `at`.
pub record Going (t : Table) (name : List ℕ) (at done place len : ℕ) (same : Bool) : Type 0 where
  pub left : filing t 0 0 0 0 true (labels_of name) ≡ filing t at done place len same (parts_from name at)
  pub inside : at ≤ length name + 1
  pub few : place ≤ at
  pub spent : done ≤ suc most_worked
  pub small : len ≤ most_label * place
  pub some_done : 1 ≤ at → 1 ≤ len

module _ (t : Table) (name : List ℕ) where
  pub go_start : 1 ≤ length name → Going t name 0 0 0 0 true
  go_start h =
      record {
        left = rw (parts_all name h);
        inside = omega arith;
        few = omega arith;
        spent = omega arith;
        small = omega arith;
        some_done = λ k. absurd (omega arith);
      }

  module _ (at done place len : ℕ) (same : Bool) (g : Going t name at done place len same) where
    pub go_end : length name < at → Form (len - 1) same ≡ filing t 0 0 0 0 true (labels_of name)
    unfolding filing
    go_end h = sym (g.left ∙ rw (parts_none name at h))

    module _ (end : ℕ) (e : LabelEnds name at end) (l : List ℕ) (is : label_at name at end ≡ l) (w w' : List ℕ) (r : Result JudgedLabel Refusal)
        (j : Judges t at done place l w w' r) where
      pub go_refused : (f : Refusal) → r ≡ Err f → Refused (number_of f) (place_of f) ≡ filing t 0 0 0 0 true (labels_of name)
      unfolding filing
      go_refused f er = sym (g.left ∙ rw (parts_next name at end e, is, judged_refused t at done place l w w' r f er j))

      pub go_more : (n : ℕ) (k : Kind) (worked : ℕ) → r ≡ Ok (record { length = n; kind = k; worked = worked })
          → Going t name (end + 1) (done + (worked + 1)) (place + 1) (len + (n + 1)) (same && same_list (take n w') l)
      go_more n k worked er =
          let a : Accepts (label_verdict t at done place l) done w' n k worked = judged_accepted t at done place l w w' r _ er j in
          let size : length l ≡ end - at = ap length (sym is) ∙ label-length name at end e in
          record {
            left =
                g.left ∙ rw (parts_next name at end e, is)
                (label-next t at done place len same l (parts_from name (end + 1)) a.label (end + 1) (done + (worked + 1)) (place + 1) (len + (n + 1))
                (same && same_list (take n w') l) a.verdict (omega (arith, size, e.from)) (omega (arith, a.long)) (omega arith) (omega (arith, a.count))
                (rw a.words));
            inside = omega (arith, e.to);
            few = omega (arith, g.few, e.from);
            spent = omega (arith, a.room);
            small = omega (arith, g.small, a.few);
            some_done = λ k. omega arith;
          }

-- what follows a verdict on all labels
abbrev on_labels : Verdict (List Label) → (List Label → Filed) → Filed
on_labels (accepted xs) f = f xs
on_labels (refused n p) f = Refused n p

-- the lengths of answers, each with a stop behind it
abbrev lengths : List Label → ℕ
lengths [] = 0
lengths (x ∷ xs) = length (answer x) + 1 + lengths xs

and_true : (b : Bool) → b ≡ (b && true)
and_true true = refl
and_true false = refl

and_moved : (a b c : Bool) → ((a && b) && c) ≡ (a && (b && c))
and_moved true b c = refl
and_moved false b c = refl

filed_labels : (t : Table) (at done place len : ℕ) (same : Bool) (ls : List (List ℕ))
    → filing t at done place len same ls
    ≡ on_labels (labels_verdict 0 t at done place ls) (λ xs. Form (len + lengths xs - 1) (same && alike stop (map answer xs) ls))
unfolding filing labels_verdict
filed_labels t at done place len same [] = let z : len + 0 ≡ len = omega arith in rw (z, ← and_true same)
filed_labels t at done place len same (l ∷ ls) =
    rw (by_off t at done place l)
    (go (label_verdict t at done place l)
    (λ x.
    filed_labels t (at + length l + 1) (done + x.worked + 1) (suc place) (len + (length (answer x) + 1)) (same && same_list (answer x) l) ls))
  where
    more : (x : Label) (v : Verdict (List Label))
        → on_labels v (λ xs. Form (len + (length (answer x) + 1) + lengths xs - 1) ((same && same_list (answer x) l) && alike stop (map answer xs) ls))
        ≡ on_labels (next v (λ rest. accepted (x ∷ rest))) (λ xs. Form (len + lengths xs - 1) (same && alike stop (map answer xs) (l ∷ ls)))
    more x (accepted xs) =
        let z : len + (length (answer x) + 1) + lengths xs ≡ len + (length (answer x) + 1 + lengths xs) = omega arith in
        rw (z, and_moved same (same_list (answer x) l) (alike stop (map answer xs) ls))
    more x (refused n p) = refl

    go : (v : Verdict Label)
        → ((x : Label)
        → filing t (at + length l + 1) (done + x.worked + 1) (suc place) (len + (length (answer x) + 1)) (same && same_list (answer x) l) ls
        ≡ on_labels (labels_verdict 0 t (at + length l + 1) (done + x.worked + 1) (suc place) ls)
        (λ xs. Form (len + (length (answer x) + 1) + lengths xs - 1) ((same && same_list (answer x) l) && alike stop (map answer xs) ls)))
        → on_label v (λ x. filing t (at + length l + 1) (done + x.worked + 1) (suc place) (len + (length (answer x) + 1)) (same && same_list (answer x) l) ls)
        ≡ on_labels (next v (λ a. next (labels_verdict 0 t (at + length l + 1) (done + a.worked + 1) (suc place) ls) (λ rest. accepted (a ∷ rest))))
        (λ xs. Form (len + lengths xs - 1) (same && alike stop (map answer xs) (l ∷ ls)))
    go (accepted x) h = h x ∙ more x (labels_verdict 0 t (at + length l + 1) (done + x.worked + 1) (suc place) ls)
    go (refused n p) h = refl

-- as many labels are accepted as there are
accepted_count : (t : Table) (at done place : ℕ) (ls : List (List ℕ)) (xs : List Label) → labels_verdict 0 t at done place ls ≡ accepted xs
    → length (map answer xs) ≡ length ls
unfolding labels_verdict
accepted_count t at done place [] xs e = let z : xs ≡ [] = cc in rw z
accepted_count t at done place (l ∷ ls) xs e =
    go (label_by 0 t at done place l) (λ x ys h. accepted_count t (at + length l + 1) (done + x.worked + 1) (suc place) ls ys h) e
  where
    last : (x : Label) (v : Verdict (List Label)) → ((ys : List Label) → v ≡ accepted ys → length (map answer ys) ≡ length ls)
        → next v (λ rest. accepted (x ∷ rest)) ≡ accepted xs → length (map answer xs) ≡ suc (length ls)
    last x (accepted ys) h f = let z : xs ≡ x ∷ ys = cc in rw z (ap suc (h ys refl))
    last x (refused n p) h f = absurd (let z : ◌≡◌ {A = ℕ} 0 1 = cc in omega arith)

    go : (v : Verdict Label)
        → ((x : Label) (ys : List Label) → labels_verdict 0 t (at + length l + 1) (done + x.worked + 1) (suc place) ls ≡ accepted ys
        → length (map answer ys) ≡ length ls)
        → next v (λ a. next (labels_verdict 0 t (at + length l + 1) (done + a.worked + 1) (suc place) ls) (λ rest. accepted (a ∷ rest))) ≡ accepted xs
        → length (map answer xs) ≡ suc (length ls)
    go (accepted x) h f = last x (labels_verdict 0 t (at + length l + 1) (done + x.worked + 1) (suc place) ls) (h x) f
    go (refused n p) h f = absurd (let z : ◌≡◌ {A = ℕ} 0 1 = cc in omega arith)

lengths_joined : (x : Label) (xs : List Label) → lengths (x ∷ xs) ≡ length (name_answer (x ∷ xs)) + 1
unfolding name_answer join_with
lengths_joined x [] = omega arith
lengths_joined x (y ∷ ys) = rw (length-append, lengths_joined y ys) (omega arith)

-- 42 and 43 are judged by the length alone, and the form is the name where each answer is its label
form_change : (form name : List ℕ) → next (fileable form) (λ f. accepted (same_list f name)) ≡ verdict_by (length form) (same_list form name)
form_change [] name = refl
form_change (c ∷ s) name = rw (ne_eqb (suc (length s)) 0 (λ h. omega arith)) (go (ltb form_room (suc (length s))))
  where
    go : (b : Bool)
        → next (cond b (refused 43 0) (accepted (c ∷ s))) (λ f. accepted (same_list f name)) ≡ cond b (refused 43 0) (accepted (same_list (c ∷ s) name))
    go true = refl
    go false = refl

labels_split : (name : List ℕ) → 1 ≤ length name → labels_of name ≡ split stop name
unfolding labels_of
labels_split [] h = absurd (let z : 1 ≤ 0 = h in omega arith)
labels_split (c ∷ s) h = refl

module _ (words name : List ℕ) (work : ℕ) (ix : Sections) (laid : Laid words ix) (enough : least_work ≤ work) (some_name : 1 ≤ length name)
    (short : length name ≤ most_input) where
  -- an answer stands for the verdict, and so for the number beside the name
  abbrev Answers : Result Bool BookError → Type 0
  Answers r = (verdict_is r ≡ refiled_verdict words work name) × (change_is r ≡ changed words work name)

  by_verdict : (r : Result Bool BookError) → verdict_is r ≡ refiled_verdict words work name → Answers r
  by_verdict r e = (e, change-changed words work name r e)

  -- 4
  scalar_refused : (i : ℕ) → some i ≡ place_with (λ c. not (is_scalar c)) 0 name → refused 4 i ≡ refiled_verdict words work name
  unfolding refiled_verdict form_by name_before15
  scalar_refused i e = rw (admitted_scalar words name work ix laid enough short i e)

  pub changed_scalar : (i : ℕ) → some i ≡ place_with (λ c. not (is_scalar c)) 0 name → Answers (Err (book.Refused (NotScalar i)))
  changed_scalar i e = by_verdict (Err (book.Refused (NotScalar i))) (scalar_refused i e)

  module _ (scalars : none ≡ place_with (λ c. not (is_scalar c)) 0 name) where
    abbrev verdict : Verdict (List Label)
    verdict = labels_verdict 0 (the_table words) 0 0 0 (labels_of name)

    -- what follows the verdict on all labels
    abbrev on_form : Verdict (List Label) → Verdict Bool
    on_form v = next (next v (λ labels. fileable (name_answer labels))) (λ form. accepted (same_list form name))

    changed_by : refiled_verdict words work name ≡ on_form verdict
    unfolding refiled_verdict form_by name_before15
    changed_by = rw (admitted-all words name work ix laid enough short scalars).admits

    -- a refusal of a label
    pub changed_refused : (n p : ℕ) → Refused n p ≡ filing (the_table words) 0 0 0 0 true (labels_of name) → refused n p ≡ refiled_verdict words work name
    changed_refused n p e =
        go verdict (e ∙ filed_labels (the_table words) 0 0 0 0 true (labels_of name)) ∙ sym changed_by
      where
        go : (v : Verdict (List Label))
            → Refused n p ≡ on_labels v (λ xs. Form (0 + lengths xs - 1) (true && alike stop (map answer xs) (labels_of name)))
            → refused n p ≡ on_form v
        go (accepted xs) f = absurd (let z : ◌≡◌ {A = ℕ} 0 1 = cc in omega arith)
        go (refused m q) f = let y : n ≡ m = cc in let z : p ≡ q = cc in rw (y, z)

    -- a form
    pub changed_form : (len : ℕ) (same : Bool) → Form len same ≡ filing (the_table words) 0 0 0 0 true (labels_of name)
        → verdict_by len same ≡ refiled_verdict words work name
    unfolding name_answer
    changed_form len same e =
        go verdict refl (e ∙ filed_labels (the_table words) 0 0 0 0 true (labels_of name)) ∙ sym changed_by
      where
        formed : (xs : List Label) → length (map answer xs) ≡ length (split stop name) → len ≡ 0 + lengths xs - 1
            → same ≡ alike stop (map answer xs) (split stop name) → verdict_by len same ≡ on_form (accepted xs)
        formed [] h f g = absurd (omega (arith, split-some stop name))
        formed (x ∷ xs) h f g =
            let long : len ≡ length (name_answer (x ∷ xs)) = omega (arith, lengths_joined x xs) in
            rw (long, g ∙ alike_joined stop (map answer (x ∷ xs)) name h) (sym (form_change (name_answer (x ∷ xs)) name))

        go : (v : Verdict (List Label)) → verdict ≡ v
            → Form len same ≡ on_labels v (λ xs. Form (0 + lengths xs - 1) (true && alike stop (map answer xs) (labels_of name)))
            → verdict_by len same ≡ on_form v
        go (accepted xs) ev f =
            let count : length (map answer xs) ≡ length (split stop name) =
            rw (labels_split name some_name) at (accepted_count (the_table words) 0 0 0 (labels_of name) xs ev) in
            let a : len ≡ 0 + lengths xs - 1 = cc in
            let b : same ≡ alike stop (map answer xs) (labels_of name) = cc in
            formed xs count a (rw (labels_split name some_name) at b)
        go (refused m p) ev f = absurd (let z : ◌≡◌ {A = ℕ} 0 1 = cc in omega arith)

    module _ (r : Result FiledForm Refusal) (e : filed_is r ≡ filing (the_table words) 0 0 0 0 true (labels_of name)) where
      pub labels_refused : (f : Refusal) → r ≡ Err f → Answers (Err (book.Refused f))
      labels_refused f g = by_verdict (Err (book.Refused f)) (changed_refused (number_of f) (place_of f) (rw g at e))

      pub labels_formed : (f : FiledForm) → r ≡ Ok f → (a : Result Bool BookError) → verdict_is a ≡ verdict_by f.length f.same → Answers a
      labels_formed f g a k = by_verdict a (k ∙ changed_form f.length f.same (rw g at e))
