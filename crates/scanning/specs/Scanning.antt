-- What the steps of the scan answer, and the scan itself.
use Rattle.std.specs.Prelude.{ℕ, ◌≤◌, ◌<◌, ◌≡◌, not, List, [], ◌∷◌, ◌++◌, length, Option as Answer, Some, None, Result, Ok, Err}
use Rattle.std.proofs.Math.Option.{Option, none, some}
use Rattle.lists.specs.Lists.{any}
use Rattle.table.specs.Table.{Table}
use Rattle.text.specs.Decomposition.{four_rounds}
use Rattle.laying.specs.declared.Run.{Run}
use Rattle.laying.specs.declared.Tally.{Tally}
use Rattle.scanning.specs.declared.Which as which
use Rattle.scanning.specs.declared.Which.{Which}
use Rattle.scanning.specs.declared.Stepped.{Stepped}
use Rattle.tokens.specs.Scan.{Step, emoji, text, ignored, disallowed, width, step_at, steps, first_disallowed}
use Rattle.tokens.specs.Tokens.{Token, is_emoji, tokens_of, worked}
use Rattle.limits.specs.Limits.{most_worked}
use Rattle.tokens.specs.Cells.{decomposed, Cells}
use Rattle.laying.specs.Laying.{Laying}

-- the step at the start of what is left of a label
unfoldable pub first_step : Table → List ℕ → Step
unfolding step_at
first_step t [] = disallowed
first_step t (c ∷ rest) = step_at t c rest

-- which emoji it was: "the number of the matching record (from 0) and how many FE0F it took from the input"
pub record Chosen : Type 0 where
  pub number : ℕ
  pub selectors : ℕ

-- that of a step, where it is an emoji
abbrev pub chosen : Step → Option Chosen
chosen (emoji f) = some (record { number = f.number; selectors = f.taken.selectors })
chosen (text s) = none
chosen ignored = none
chosen disallowed = none

-- that of an answer
abbrev pub chosen_by : Which → Option Chosen
chosen_by (which.TheVariants.Emoji n s) = some (record { number = n; selectors = s })
chosen_by which.TheVariants.Codepoint = none

-- a step that is not disallowed is laid down
pub record Went (t : Table) (s : Step) (w w' : List ℕ) (run : Run) (k : ℕ) (m : Which) (r : Run) : Type 0 where
  pub allowed : s ≡ disallowed → ⊥
  pub taken : k ≡ width s
  pub which : chosen_by m ≡ chosen s
  pub lays : (ss : List Step) → Laying (four_rounds t) ss run w → Laying (four_rounds t) (ss ++ s ∷ []) r w'

abbrev pub StepWent : Table → Step → List ℕ → List ℕ → Run → Answer Stepped → Type 0
StepWent t s w w' run None = s ≡ disallowed
StepWent t s w w' run (Some r) = Went t s w w' run r.taken r.which r.run

-- what a step answers; words of the work area beyond the cells are open
pub record StepPut (t : Table) (s : Step) (w w' : List ℕ) (run : Run) (r : Answer Stepped) : Type 0 where
  pub same : length w' ≡ length w
  pub went : StepWent t s w w' run r

-- the tokens ts are counted, and stand in the work area; or their worked length is over the limit, and the number says just that
pub record Tallied (t : Table) (ts : List Token) (w : List ℕ) (k : Tally) : Type 0 where
  pub over : most_worked < k.worked → most_worked < worked t ts
  pub worked : k.worked ≤ most_worked → k.worked ≡ worked t ts
  pub emoji : k.emoji ≡ any is_emoji ts
  pub text : k.text ≡ any (λ x. not (is_emoji x)) ts
  pub cells : k.worked ≤ most_worked → Cells (decomposed t ts) w k.worked

-- "disallowed codepoint" with its place, or else the tokens
abbrev pub ScanIs : Table → List ℕ → List ℕ → Result Tally ℕ → Type 0
ScanIs t l w (Err i) = first_disallowed 0 (steps t l) ≡ some i
ScanIs t l w (Ok k) = (first_disallowed 0 (steps t l) ≡ none) × Tallied t (tokens_of (steps t l)) w k

-- what the scan of the label l answers; words of the work area beyond the cells are open, and all of them after 5 or past the limit
pub record Scans (t : Table) (l w w' : List ℕ) (r : Result Tally ℕ) : Type 0 where
  pub same : length w' ≡ length w
  pub is : ScanIs t l w' r
