-- The end of the screen call by a sound table (specs/Ends): an answer buffer of twice as many words as the worked length may reach holds every
-- screen form.
use Rattle.std.specs.Prelude.{ℕ, ◌*◌, ◌≤◌, ◌≡◌, length}
use Rattle.std.proofs.Common.{arith, le-ltb}
use Rattle.std.proofs.Math.Path.{refl}
use mathlib.Core.List.{List}
use Rattle.std.proofs.Math.Option.{none}
use Rattle.limits.specs.Limits.{most_worked}
use Rattle.answers.specs.Verdict.{Verdict, accepted, refused, next}
use Rattle.ending.specs.Ending.{then15}
use Rattle.table.specs.Layout.{the_table}
use Rattle.soundness.specs.Soundness.{soundness_of}
use Rattle.name.specs.Label.{Label}
use Rattle.name.specs.Name.{labels_of, name_before15}
use Rattle.forms.specs.Forms.{typed, name_form, form_answering, screen_form}
use Rattle.screen.specs.Screen.{screen_before15, screen_verdict}
use Rattle.screen_laws.proofs.RestoredLaws.{twice}

-- By a sound table, with room for twice the worked limit, 15 changes nothing.
pub screen_whole : (greek on : ℕ) (words name : List ℕ) (room work : ℕ) → soundness_of words ≡ none → 2 * most_worked ≤ room
    → screen_verdict greek on words name room work ≡ screen_before15 on words name work
unfolding screen_verdict screen_before15
screen_whole greek on words name room work sound enough = go (name_before15 on words name work) refl
  where
    go : (v : Verdict (List Label)) → name_before15 on words name work ≡ v
        → then15 (form_answering (screen_form (the_table words) greek) name) room (next v (λ xs. accepted (typed (the_table words) xs (labels_of name))))
        ≡ next v (λ xs. accepted (typed (the_table words) xs (labels_of name)))
    go (refused n p) e = refl
    go (accepted ls) e =
        let h = twice greek on words name work ls sound e in
        rw (le-ltb room (length (name_form (screen_form (the_table words) greek) (typed (the_table words) ls (labels_of name)))) (omega (arith, h, enough)))
