-- What the code answers for refusals 1 to 4.
use Rattle.answers.specs.declared.Refusal.{Refusal}
use Rattle.std.specs.Prelude.{ℕ, ◌≤◌, ◌≡◌, List, length, Result, Ok, Err, Some, None}
use Rattle.std.specs.declared.option.Option as found
use Rattle.std.proofs.Math.Option.{Option, none, some}
use Rattle.limits.specs.Limits.{most_input, least_work}
use Rattle.answers.specs.Verdict.{accepted, refused}
use Rattle.answers.specs.Values.{number_of, place_of}
use Rattle.sections.specs.Laid.{Laid}
use Rattle.table.specs.Layout.{the_table}
use Rattle.sections.specs.declared.Sections.{Sections}
use Rattle.name.specs.Label.{admitted}

-- the place that is answered
abbrev pub place_is : found.Option ℕ → Option ℕ
place_is (Some i) = some i
place_is None = none

-- nothing is refused, and the sections are found
pub record Admits (words input : List ℕ) (work : ℕ) (ix : Sections) : Type 0 where
  pub admits : admitted words work input ≡ accepted (the_table words)
  pub laid : Laid words ix
  pub enough : least_work ≤ work
  pub short : length input ≤ most_input

abbrev pub AdmissionIs : List ℕ → List ℕ → ℕ → Result Sections Refusal → Type 0
AdmissionIs words input work (Err f) = admitted words work input ≡ refused (number_of f) (place_of f)
AdmissionIs words input work (Ok ix) = Admits words input work ix
