-- What the functions of this crate promise, in the terms of Within.antt.
use Rattle.std.specs.Prelude.{ℕ, ◌≤◌, ◌<◌, ◌≡◌, List, length, take, Ok, Err}
use Rattle.limits.specs.Limits.{most_worked}
use Rattle.answers.specs.Verdict.{accepted, refused}
use Rattle.table.specs.Table.{Table}
use Rattle.text.specs.Ordering.{order, nfd}
use Rattle.text.specs.Decomposition.{four_rounds}
use Rattle.decomposition.specs.Rounds.{Appended}
use Rattle.composition.specs.Work.{Ready}
use Rattle.full_decomposition.specs.declared.FormError.{FormError}
use Rattle.full_decomposition.specs.declared.FormError.TheVariants.{LayoutFault, WorkedTooLong, WorkAreaTooSmall, BufferTooSmall}
use Rattle.full_decomposition.specs.Within.{FormAnswer, form_number, form_within}

-- the four rounds of the text stand at the front of the buffer, if they fit, and r is their length; past the worked limit r only says so, and the words are open
pub record Decomposes (t : Table) (text out out' : List ℕ) (r : ℕ) : Type 0 where
  pub same : length out' ≡ length out
  pub whole : r ≤ most_worked → Appended out out' 0 (four_rounds t text) r
  pub over : most_worked < r → most_worked < length (four_rounds t text)

-- the text d is put into order, with its classes beside it
pub record Arranged (t : Table) (d text classes : List ℕ) : Type 0 where
  pub is : text ≡ order t d
  pub ready : Ready t text classes
  pub same : length text ≡ length d
  pub same-classes : length classes ≡ length d

-- NFD stands in the first n places of the answer buffer, its classes in those of the work area, and no refusal applies; the words behind them
-- are open.
pub record Ordered (t : Table) (text answer answer' work work' : List ℕ) (n : ℕ) : Type 0 where
  pub passes : (form : Table → List ℕ → List ℕ) → form_within form t text (length answer) (length work) ≡ accepted (form t text)
  pub count : n ≡ length (nfd t text)
  pub front : take n answer' ≡ nfd t text
  pub ready : Ready t (nfd t text) (take n work')
  pub room : n ≤ length answer'
  pub work-room : n ≤ length work'

-- any form is refused with the number of e
abbrev pub RefusedAs : Table → List ℕ → ℕ → ℕ → FormError → Type 0
RefusedAs t text room work e = (form : Table → List ℕ → List ℕ) → form_within form t text room work ≡ refused (form_number e) 0

-- what an answer says of full decomposition, by a table that is laid out
abbrev pub Standing : Table → List ℕ → List ℕ → List ℕ → List ℕ → List ℕ → FormAnswer → Type 0
Standing t text answer answer' work work' (Ok n) = Ordered t text answer answer' work work' n
Standing t text answer answer' work work' (Err LayoutFault) = ⊥
Standing t text answer answer' work work' (Err WorkedTooLong) = RefusedAs t text (length answer) (length work) WorkedTooLong
Standing t text answer answer' work work' (Err WorkAreaTooSmall) = RefusedAs t text (length answer) (length work) WorkAreaTooSmall
Standing t text answer answer' work work' (Err BufferTooSmall) = RefusedAs t text (length answer) (length work) BufferTooSmall
