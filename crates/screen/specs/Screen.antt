-- The screen call. 02, Item 1: "Add the beautified form of source document 000 .. Refusals and their order are as for the name call, and 15 is
-- judged on the screen form."
use Rattle.answers.specs.declared.Refusal.{Refusal}
use Rattle.answers.specs.declared.AcceptedName.{AcceptedName}
use Rattle.std.specs.Prelude.{ℕ, List, length, Result}
use Rattle.answers.specs.Verdict.{Verdict, accepted, next}
use Rattle.answers.specs.Values.{NameValues, name_values}
use Rattle.ending.specs.Ending as ending
use Rattle.ending.specs.Ending.{Answering, then15, result_of}
use Rattle.ending.specs.Ends.{Ends, Judged}
use Rattle.table.specs.Table.{Table}
use Rattle.table.specs.Layout.{the_table}
use Rattle.name.specs.Label.{Label}
use Rattle.name.specs.Name.{labels_of, labels_verdict, name_before15}
use Rattle.forms.specs.Forms.{Typed, typed, name_form, form_answering, screen_form}

-- how the call answers: with the screen form
abbrev pub screen_answering : Table → ℕ → List ℕ → Answering (List Typed) NameValues
screen_answering t greek name = form_answering (screen_form t greek) name

-- labels as the name call judges them, each with what was typed for it
unfoldable pub labels_typed : ℕ → Table → ℕ → ℕ → ℕ → List (List ℕ) → Verdict (List Typed)
unfolding labels_verdict typed
labels_typed setting t start done place ls = next (labels_verdict setting t start done place ls) (λ xs. accepted (typed t xs ls))

-- "Refusals and their order are as for the name call": an accepted name's labels, with what was typed for each
unfoldable pub screen_before15 : ℕ → List ℕ → List ℕ → ℕ → Verdict (List Typed)
unfolding name_before15 labels_of typed the_table
screen_before15 setting words name work = next (name_before15 setting words name work) (λ xs. accepted (typed (the_table words) xs (labels_of name)))

-- "and 15 is judged on the screen form"
unfoldable pub screen_verdict : ℕ → ℕ → List ℕ → List ℕ → ℕ → ℕ → Verdict (List Typed)
unfolding screen_before15 name_form screen_form
screen_verdict greek setting words name room work = then15 (form_answering (screen_form (the_table words) greek) name) room (screen_before15 setting words name work)

-- The call with the number of the Greek group and a setting, on the words of a table and a name, with an answer buffer of `room` words and a work
-- area of `work` words: what it answers, and every word of both buffers afterwards.
unfoldable pub screen_call : ℕ → ℕ → List ℕ → List ℕ → ℕ → ℕ → ending.Result NameValues
unfolding screen_verdict
screen_call greek setting words name room work =
    result_of (screen_answering (the_table words) greek name) room work (screen_verdict greek setting words name room work)

-- The call: its answer r, and every word of the answer buffer and of the work area, before and after it (').
abbrev pub ScreenCalls : ℕ → ℕ → List ℕ → List ℕ → List ℕ → List ℕ → List ℕ → List ℕ → Result AcceptedName Refusal → Type 0
ScreenCalls greek setting words input before after work work' r =
    Ends (screen_call greek setting words input (length before) (length work)) (name_values r) after work'

-- what is answered where the verdict before 15 is v; the words behind the form, and those of the work area, are open until the end
abbrev pub ScreenJudged : Table → ℕ → List ℕ → Verdict (List Typed) → List ℕ → List ℕ → List ℕ → List ℕ → Result AcceptedName Refusal → Type 0
ScreenJudged t greek input v before after work work' r = Judged (screen_answering t greek input) v before after work work' (name_values r)
