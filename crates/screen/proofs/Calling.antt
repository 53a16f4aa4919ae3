-- What the tests 1 to 4 leave of the call, and its two ends.
use Rattle.std.specs.Prelude.{Result, Ok, Err}
use Prim.Native.Nat.{ℕ}
use mathlib.Core.Path.{◌≡◌, refl}
use mathlib.Core.Bool.{Bool, true, false}
use mathlib.Core.List.{List}
use lib.ListN.{length}
use Rattle.answers.specs.Verdict.{refused}
use Rattle.answers.specs.Values.{NameValues, number_of, place_of}
use Rattle.answers.specs.declared.Refusal.{Refusal}
use Rattle.answers.specs.declared.Refusal.TheVariants.{BufferTooSmall}
use Rattle.ending.specs.Ends.{Ends, Judged, ends_kept, ends_over}
use Rattle.ending.specs.Finish.{Finishes}
use Rattle.table.specs.Layout.{the_table}
use Rattle.sections.specs.declared.Sections.{Sections}
use Rattle.name.specs.Admission.{AdmissionIs}
use Rattle.name.specs.Label.{admitted}
use Rattle.name.specs.Name.{labels_of}
use Rattle.name.proofs.Answering.{admits}
use Rattle.screen.specs.Screen.{screen_answering, labels_typed, screen_before15, screen_verdict, screen_call, ScreenCalls, ScreenJudged}

module _ (greek g : ℕ) (words input before work : List ℕ) where
  -- 1 to 4
  module _ (r : Result Sections Refusal) (h : AdmissionIs words input (length work) r) where
    pub screen_admitted : (ix : Sections) → r ≡ Ok ix → (after work' : List ℕ) (a : NameValues)
        → Judged (screen_answering (the_table words) greek input) (labels_typed g (the_table words) 0 0 0 (labels_of input)) before after work work' a
        → Judged (screen_answering (the_table words) greek input) (screen_before15 g words input (length work)) before after work work' a
    unfolding screen_before15 labels_typed
    screen_admitted ix e after work' a j = rw (admits words input (length work) r h ix e).admits j

    pub screen_not_admitted : (f : Refusal) → r ≡ Err f
        → ScreenJudged (the_table words) greek input (screen_before15 g words input (length work)) before before work work (Err f)
    unfolding screen_before15
    screen_not_admitted f e =
        let no : admitted words (length work) input ≡ refused (number_of f) (place_of f) = rw e at h in
        record { same = refl; same-work = refl; told = rw no refl }

  -- the ends of the call, from what was judged before 15 and what `finish` left
  module _ (mid after mid-work work' : List ℕ) (n : ℕ) (kept : Bool) (f : Finishes mid after mid-work work' n kept) (v : NameValues)
      (j : Judged (screen_answering (the_table words) greek input) (screen_before15 g words input (length work)) before mid work mid-work v) (e : n ≡ v.length) where
    pub screen_kept : kept ≡ true → Ends (screen_call greek g words input (length before) (length work)) v after work'
    unfolding screen_call screen_verdict
    screen_kept =
        ends_kept (screen_answering (the_table words) greek input) before mid after work mid-work work' v (screen_before15 g words input (length work)) j n e kept f

    pub screen_over : kept ≡ false → ScreenCalls greek g words input before after work work' (Err BufferTooSmall)
    unfolding screen_call screen_verdict
    screen_over =
        ends_over (screen_answering (the_table words) greek input) before mid after work mid-work work' v (screen_before15 g words input (length work)) j n e kept f
