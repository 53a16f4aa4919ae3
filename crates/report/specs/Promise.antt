-- What the call promises.
use Rattle.std.specs.Prelude.{ℕ, ◌≡◌, List, length, Result, Ok, Err}
use Rattle.answers.specs.Values.{number_of, place_of}
use Rattle.report.specs.declared.ReportError.{ReportError}
use Rattle.report.specs.declared.ReportError.TheVariants.{Refused, TooLittleRoom}
use Rattle.report.specs.Calls.{Values, given, beside, Answer, report_call}

-- the number, the place and the length of each case of the answer
abbrev pub report_values : Result ℕ ReportError → Values
report_values (Ok n) = given n
report_values (Err (Refused f)) = beside (number_of f) (place_of f)
report_values (Err TooLittleRoom) = beside 32 0

-- a call has answered r: its values, every byte of the buffer and every word of the work area
pub record Ends (r : Answer) (told : Values) (after work : List ℕ) : Type 0 where
  pub values : told ≡ r.values
  pub bytes : after ≡ r.bytes
  pub cleared : work ≡ r.work

-- The call with a setting: its answer, every byte of the buffer and every word of the work area, before and after it.
abbrev pub ReportCalls : ℕ → List ℕ → List ℕ → List ℕ → List ℕ → List ℕ → List ℕ → Result ℕ ReportError → Type 0
ReportCalls setting words input before after work work' r = Ends (report_call setting words input (length before) (length work)) (report_values r) after work'
