-- What a call promises, with its values in the fields.
use Prim.Native.Nat.{ℕ}
use mathlib.Core.Path.{◌≡◌, ◌∙◌}
use mathlib.Core.List.{List}
use Rattle.book_answers.specs.Calls.{BookValues, BookResult}
use Rattle.book_answers.specs.Promise.{Leaves}

pub in_fields : (r : BookResult) (told fields : BookValues) (area' answer' work' : List ℕ) → fields ≡ told → Leaves r told area' answer' work'
    → Leaves r fields area' answer' work'
in_fields r told fields area' answer' work' e l = record { values = e ∙ l.values; area = l.area; answer = l.answer; work = l.work }
