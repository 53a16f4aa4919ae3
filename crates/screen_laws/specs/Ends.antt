-- The name call and the screen call are one call with two forms, on every table; by a sound table an answer buffer of twice as many words as the
-- worked length may reach holds every screen form (`screen_whole`, in proofs/EndLaws).
use Rattle.std.specs.Prelude.{ℕ, ◌≡◌, Bool, cond, length, ltb}
use Rattle.std.proofs.Math.Path.{refl}
use Rattle.std.proofs.Math.Bool.{true, false}
use mathlib.Core.List.{List}
use Rattle.answers.specs.Verdict.{Verdict, accepted, refused, next}
use Rattle.answers.specs.Values.{NameValues}
use Rattle.ending.specs.Ending.{Result, then15, result_of}
use Rattle.table.specs.Table.{Table}
use Rattle.table.specs.Layout.{the_table}
use Rattle.name.specs.Label.{Label}
use Rattle.name.specs.Name.{labels_of, labels_verdict, name_answer, name_answering, name_before15, name_verdict, name_result, name_call}
use Rattle.joining.specs.Joining.{name_accepts}
use Rattle.forms.specs.Forms.{typed, Form, name_form, form_answering, normal_form, screen_form}
use Rattle.forms.proofs.FormLaws.{name_normal}
use Rattle.screen.specs.Screen.{screen_before15, screen_verdict, screen_call}
use Rattle.screen_laws.specs.Restored.{fits_exactly, the_table_lem}

-- A call that answers with a form: an accepted name's labels, 15 on the form that is made of them, and the end that all calls share.
unfoldable pub form_call : (Table → Form) → ℕ → List ℕ → List ℕ → ℕ → ℕ → Result NameValues
unfolding screen_before15 name_form
form_call f setting words name room work =
    result_of (form_answering (f (the_table words)) name) room work
    (then15 (form_answering (f (the_table words)) name) room (screen_before15 setting words name work))

pub screen_by_form : (greek setting : ℕ) (words name : List ℕ) (room work : ℕ)
    → screen_call greek setting words name room work ≡ form_call (λ t. screen_form t greek) setting words name room work
unfolding screen_call screen_verdict form_call
screen_by_form greek setting words name room work = refl

module _ (setting : ℕ) (words name : List ℕ) (room work : ℕ) where
  -- the labels that the name call judged, by the table that the words give
  own : (ls : List Label) → name_before15 setting words name work ≡ accepted ls → labels_verdict setting (the_table words) 0 0 0 (labels_of name) ≡ accepted ls
  own ls e =
      let a = name_accepts setting words name (length (name_answer ls)) work ls (fits_exactly setting words name work ls e) in
      rw (the_table_lem words a.table a.laid) a.labels

  -- Values, answer buffer and work area of the name call, whatever it answers.
  pub name_by_form : name_call setting words name room work ≡ form_call normal_form setting words name room work
  unfolding name_call name_result name_verdict form_call screen_before15
  name_by_form = go (name_before15 setting words name work) refl
    where
      fits : (ls : List Label) (b : Bool) → name_form (normal_form (the_table words)) (typed (the_table words) ls (labels_of name)) ≡ name_answer ls
          → result_of (name_answering name) room work (cond b (refused 15 0) (accepted ls))
          ≡ result_of (form_answering (normal_form (the_table words)) name) room work (cond b (refused 15 0) (accepted (typed (the_table words) ls (labels_of name))))
      fits ls true q = refl
      fits ls false q = rw q refl

      go : (v : Verdict (List Label)) → name_before15 setting words name work ≡ v
          → result_of (name_answering name) room work (then15 (name_answering name) room v)
          ≡ result_of (form_answering (normal_form (the_table words)) name) room work
          (then15 (form_answering (normal_form (the_table words)) name) room (next v (λ xs. accepted (typed (the_table words) xs (labels_of name)))))
      go (refused n p) e = refl
      go (accepted ls) e =
          let q = name_normal (the_table words) setting 0 0 0 (labels_of name) ls (own ls e) in
          rw q (fits ls (ltb room (length (name_answer ls))) q)
