-- The judging of a filed name in the steps that the code takes, label by label.
use Rattle.std.specs.Prelude.{ℕ, suc, ◌+◌, ◌-◌, ◌≤◌, ◌≡◌, Bool, ◌&&◌, List, [], ◌∷◌, length, Result, Ok, Err}
use Rattle.lists.specs.Lists.{same_list}
use Rattle.limits.specs.Limits.{least_work}
use Rattle.answers.specs.Verdict.{Verdict, accepted, refused}
use Rattle.table.specs.Table.{Table}
use Rattle.sections.specs.Laid.{Laid}
use Rattle.table.specs.Layout.{the_table}
use Rattle.sections.specs.declared.Sections.{Sections}
use Rattle.unpaired.specs.Unpaired.{Unpaired}
use Rattle.memo.specs.Memo.{Memo}
use Rattle.name.specs.Label.{Label, answer, label_verdict}
use Rattle.answers.specs.Values.{number_of, place_of}
use Rattle.answers.specs.declared.Refusal.{Refusal}
use Rattle.refiling.specs.declared.FiledForm.{FiledForm}

-- what the labels of a name give: the number and the place of a refusal, or the length of the form and whether it is the name
pub data Filed : Type 0 where
  Refused : (number place : ℕ) → Filed
  Form : ℕ → Bool → Filed

-- what an answer stands for
abbrev pub filed_is : Result FiledForm Refusal → Filed
filed_is (Ok f) = Form f.length f.same
filed_is (Err f) = Refused (number_of f) (place_of f)

-- what follows a label's verdict
abbrev pub on_label : Verdict Label → (Label → Filed) → Filed
on_label (accepted x) f = f x
on_label (refused n p) f = Refused n p

-- The labels from number `place` on, which start at `at`; `done` is the worked length before them, `len` the length of the answers before them, each
-- with a stop behind it, and `same` says whether each of those is its label.
unfoldable pub filing : Table → ℕ → ℕ → ℕ → ℕ → Bool → List (List ℕ) → Filed
unfolding label_verdict
filing t at done place len same [] = Form (len - 1) same
filing t at done place len same (l ∷ ls) =
    on_label (label_verdict t at done place l)
    (λ x. filing t (at + length l + 1) (done + x.worked + 1) (suc place) (len + (length (answer x) + 1)) (same && same_list (answer x) l) ls)

-- what is lent: a table's words and sections, what was remembered of it, and a work area that is large enough
pub record Lent (words : List ℕ) (ix : Sections) (unpaired w memo : List ℕ) : Type 0 where
  pub laid : Laid words ix
  pub pairs : Unpaired (the_table words) unpaired
  pub enough : least_work ≤ length w
  pub remembered : Memo words memo

-- what is left of it for the next name
pub record Lasting (words w w' unpaired' memo' : List ℕ) : Type 0 where
  pub same : length w' ≡ length w
  pub pairs : Unpaired (the_table words) unpaired'
  pub remembered : Memo words memo'
