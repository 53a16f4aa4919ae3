-- What the functions of this crate promise, in the terms of Forms.antt.
use Rattle.std.specs.Prelude.{ℕ, ◌≤◌, ◌≡◌, List, length}
use Rattle.ending.specs.Ends.{Ends, Told}
use Rattle.table.specs.Table.{Table}
use Rattle.full_decomposition.specs.Within.{FormAnswer, FormValues, form_values}
use Rattle.normal_forms.specs.Forms.{length_of, form_by, form_answering, Forming}

-- The call for a form: the values v that it answers, and every word of the answer buffer and of the work area, before the call and after it (').
abbrev pub Forms : (List ℕ → List ℕ → ℕ → ℕ → Forming) → List ℕ → List ℕ → List ℕ → List ℕ → List ℕ → List ℕ → FormValues → Type 0
Forms call text words answer answer' work work' v = Ends (call text words (length answer) (length work)) v answer' work'

-- the form stands at the front of the answer buffer, and fits; what is behind it, and in the work area, is left open
pub record Stands (form : Table → List ℕ → List ℕ) (text words answer answer' : List ℕ) (work : ℕ) (r : FormAnswer) : Type 0 where
  pub told : Told form_answering (form_by form text words (length answer) work) answer' (form_values r)
  pub fits : length_of r ≤ length answer'
  pub same : length answer' ≡ length answer
