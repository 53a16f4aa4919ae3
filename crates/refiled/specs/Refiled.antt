-- 02, Item 14: how a new table files a name: "whose name the new table refuses or files otherwise, .. the refusal (0 if filed otherwise, 42 or 43
-- if that form is empty or too long for a slot; 15 cannot arise)".
use Rattle.std.specs.Prelude.{ℕ, Bool, cond, List}
use Rattle.std.proofs.Math.Option.{Option, none, some}
use Rattle.lists.specs.Lists.{same_list}
use Rattle.answers.specs.Verdict.{Verdict, accepted, refused, next}
use Rattle.name.specs.Name.{name_answer, name_before15}
use Rattle.book_answers.specs.Calls.{fileable}

-- The form under which the table files a name: the refusals of the name call but 15, with Item 13's setting off and a work area of `work` words,
-- then 42 and 43.
unfoldable pub form_by : List ℕ → ℕ → List ℕ → Verdict (List ℕ)
unfolding name_before15 name_answer
form_by words work name = next (name_before15 0 words name work) (λ labels. fileable (name_answer labels))

-- whether a name stays as it is filed, or the refusal with its place
unfoldable pub refiled_verdict : List ℕ → ℕ → List ℕ → Verdict Bool
unfolding form_by
refiled_verdict words work name = next (form_by words work name) (λ form. accepted (same_list form name))

-- the number beside a name with that form: none where it is filed as before
abbrev pub change_of : List ℕ → Verdict (List ℕ) → Option ℕ
change_of name (accepted form) = cond (same_list form name) none (some 0)
change_of name (refused n p) = some n

unfoldable pub changed : List ℕ → ℕ → List ℕ → Option ℕ
unfolding form_by
changed words work name = change_of name (form_by words work name)
