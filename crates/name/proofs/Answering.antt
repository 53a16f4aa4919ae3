-- What is told of a name and of a label before 15, and the ends of both calls.
use Rattle.std.specs.Prelude.{Result, Ok, Err}
use Prim.Native.Nat.{ℕ, ◌≤◌}
use mathlib.Core.Path.{◌≡◌, refl}
use mathlib.Core.Bool.{Bool, true, false}
use mathlib.Core.List.{List}
use lib.ListN.{length, take}
use Rattle.answers.specs.Verdict.{Verdict, accepted, refused}
use Rattle.answers.specs.Values.{NameValues, LabelValues, number_of, place_of, name_values, label_values}
use Rattle.answers.specs.declared.Kind.{Kind}
use Rattle.answers.specs.declared.Refusal.{Refusal}
use Rattle.answers.specs.declared.Refusal.TheVariants.{BufferTooSmall}
use Rattle.ending.specs.Ends.{Ends, Told, Judged, ends_kept, ends_over}
use Rattle.ending.specs.Finish.{Finishes}
use Rattle.table.specs.Layout.{the_table}
use Rattle.sections.specs.declared.Sections.{Sections}
use Rattle.name.specs.Admission.{Admits, AdmissionIs}
use Rattle.name.specs.Label.{Label, answer, admitted, one_label, label_answering, label_before15, label_result, label_call_verdict, label_call}
use Rattle.name.specs.Name.{labels_of, labels_verdict, name_answer, name_answering, name_before15, name_result, name_verdict, name_call}
use Rattle.name.specs.Calls.{NameCalls, LabelCalls, NameJudged, LabelJudged}

-- a name is accepted with n codepoints, which stand in front if they fit; or it is refused
module _ (input : List ℕ) (v : Verdict (List Label)) (front : List ℕ) where
  pub name_told : (ls : List Label) (n count : ℕ) → v ≡ accepted ls → n ≡ length (name_answer ls) → (n ≤ length front → take n front ≡ name_answer ls)
      → count ≡ length (labels_of input) → Told (name_answering input) v front (name_values (Ok (record { length = n; labels = count })))
  name_told ls n count e long written counted = rw e (rw (long, counted) refl, rw long at written)

  pub name_told_refused : (f : Refusal) → v ≡ refused (number_of f) (place_of f) → Told (name_answering input) v front (name_values (Err f))
  name_told_refused f e = rw e refl

-- a label, in the same way
module _ (v : Verdict Label) (front : List ℕ) where
  pub label-told : (l : Label) (n : ℕ) (k : Kind) → v ≡ accepted l → n ≡ length (answer l) → (n ≤ length front → take n front ≡ answer l)
      → k ≡ l.kind → Told label_answering v front (label_values (Ok (record { length = n; kind = k })))
  label-told l n k e long written kind = rw e (rw (long, kind) refl, rw long at written)

  pub label-told_refused : (f : Refusal) → v ≡ refused (number_of f) (place_of f) → Told label_answering v front (label_values (Err f))
  label-told_refused f e = rw e refl

-- the ends of the calls, from what was judged before 15 and what `finish` left
module _ (g : ℕ) (words input before mid after work mid-work work' : List ℕ) (n : ℕ) (kept : Bool) (f : Finishes mid after mid-work work' n kept) where
  module _ (v : NameValues) (j : Judged (name_answering input) (name_before15 g words input (length work)) before mid work mid-work v) (e : n ≡ v.length) where
    pub name_kept : kept ≡ true → Ends (name_call g words input (length before) (length work)) v after work'
    unfolding name_call name_verdict name_result
    name_kept = ends_kept (name_answering input) before mid after work mid-work work' v (name_before15 g words input (length work)) j n e kept f

    pub name_over : kept ≡ false → NameCalls g words input before after work work' (Err BufferTooSmall)
    unfolding name_call name_verdict name_result
    name_over = ends_over (name_answering input) before mid after work mid-work work' v (name_before15 g words input (length work)) j n e kept f

  module _ (v : LabelValues) (j : Judged label_answering (label_before15 g words input (length work)) before mid work mid-work v) (e : n ≡ v.length) where
    pub label_kept : kept ≡ true → Ends (label_call g words input (length before) (length work)) v after work'
    unfolding label_call label_call_verdict label_result
    label_kept = ends_kept label_answering before mid after work mid-work work' v (label_before15 g words input (length work)) j n e kept f

    pub label_over : kept ≡ false → LabelCalls g words input before after work work' (Err BufferTooSmall)
    unfolding label_call label_call_verdict label_result
    label_over = ends_over label_answering before mid after work mid-work work' v (label_before15 g words input (length work)) j n e kept f

-- what the tests 1 to 4 said
module _ (words input : List ℕ) (work : ℕ) (r : Result Sections Refusal) (h : AdmissionIs words input work r) where
  pub admits : (ix : Sections) → r ≡ Ok ix → Admits words input work ix
  admits ix e = rw e at h

  refuses : (f : Refusal) → r ≡ Err f → admitted words work input ≡ refused (number_of f) (place_of f)
  refuses f e = rw e at h

-- as far as 14 and 17
module _ (g : ℕ) (words input before work : List ℕ) (r : Result Sections Refusal) (h : AdmissionIs words input (length work) r) where
  module _ (ix : Sections) (e : r ≡ Ok ix) (after work' : List ℕ) where
    pub name_admitted : (a : NameValues) → Judged (name_answering input) (labels_verdict g (the_table words) 0 0 0 (labels_of input)) before after work work' a
        → Judged (name_answering input) (name_before15 g words input (length work)) before after work work' a
    unfolding name_before15
    name_admitted a j = rw (admits words input (length work) r h ix e).admits j

    pub label-admitted : (a : LabelValues) → Judged label_answering (one_label g (the_table words) input) before after work work' a
        → Judged label_answering (label_before15 g words input (length work)) before after work work' a
    unfolding label_before15
    label-admitted a j = rw (admits words input (length work) r h ix e).admits j

  module _ (f : Refusal) (e : r ≡ Err f) where
    pub name_not_admitted : NameJudged input (name_before15 g words input (length work)) before before work work (Err f)
    unfolding name_before15
    name_not_admitted = record { same = refl; same-work = refl; told = rw (refuses words input (length work) r h f e) refl }

    pub label_not_admitted : LabelJudged (label_before15 g words input (length work)) before before work work (Err f)
    unfolding label_before15
    label_not_admitted = record { same = refl; same-work = refl; told = rw (refuses words input (length work) r h f e) refl }
