-- What the report promises with its answer as plain numbers: the definition of the call.
use Rattle.std.specs.Prelude.{ℕ, List, length}
use Rattle.report.specs.Calls.{Values, report_call}
use Rattle.report.specs.Promise.{Ends}
use Rattle.report_crossing.specs.declared.WanlophengReport.{WanlophengReport}

-- the values that the fields stand for
abbrev pub report_fields : WanlophengReport → Values
report_fields r = record { number = r.number; place = r.place; length = r.length }

-- Every field of the answer r, every byte of the buffer and every word of the work area, before the call and after it (').
abbrev pub ReportCrosses : ℕ → List ℕ → List ℕ → List ℕ → List ℕ → List ℕ → List ℕ → WanlophengReport → Type 0
ReportCrosses setting words input out out' work work' r = Ends (report_call setting words input (length out) (length work)) (report_fields r) out' work'
