-- What the code answers for one label, refusals 5 to 14 and 16.
use Rattle.answers.specs.declared.Refusal.{Refusal}
use Rattle.one_label.specs.declared.JudgedLabel.{JudgedLabel}
use Rattle.std.specs.Prelude.{ℕ, ◌+◌, ◌≤◌, ◌<◌, ◌≡◌, false, not, List, length, take, Result, Ok, Err, Option as Answer, Some, None}
use Rattle.std.proofs.Math.Option.{none}
use Rattle.lists.specs.Lists.{any}
use Rattle.limits.specs.Limits.{most_worked}
use Rattle.answers.specs.Verdict.{Verdict, accepted, refused}
use Rattle.answers.specs.Values.{number_of, place_of}
use Rattle.answers.specs.declared.Kind.{Kind}
use Rattle.table.specs.Table.{Table}
use Rattle.laying.specs.declared.Tally.{Tally}
use Rattle.tokens.specs.Scan.{steps, first_disallowed}
use Rattle.tokens.specs.Tokens.{Token, is_emoji, tokens_of, normal, worked}
use Rattle.tokens.specs.Cells.{decomposed, Cells}
use Rattle.kept_scan.specs.declared.Kept.{Kept}
use Rattle.name.specs.Label.{Label, answer, judged, label_verdict}

-- A label whose verdict is v is accepted: its answer, n codepoints, stands in front in the work area; `done` is the worked length before it.
pub record Accepts (v : Verdict Label) (done : ℕ) (w : List ℕ) (n : ℕ) (k : Kind) (worked : ℕ) : Type 0 where
  pub label : Label
  pub verdict : v ≡ accepted label
  pub few : n ≤ most_worked
  pub count : n ≡ length (answer label)
  pub words : take n w ≡ answer label
  pub kind : k ≡ label.kind
  pub long : worked ≡ label.worked
  pub room : done + worked ≤ most_worked

abbrev pub JudgementIs : Verdict Label → ℕ → List ℕ → Result JudgedLabel Refusal → Type 0
JudgementIs v done w (Ok j) = Accepts v done w j.length j.kind j.worked
JudgementIs v done w (Err f) = v ≡ refused (number_of f) (place_of f)

-- what is answered for the label l that starts at `start` and has the number `place`, where `done` is the worked length before it
pub record Judges (t : Table) (start done place : ℕ) (l w w' : List ℕ) (r : Result JudgedLabel Refusal) : Type 0 where
  pub same : length w' ≡ length w
  pub is : JudgementIs (label_verdict t start done place l) done w' r

-- how the tokens ts stand in the work area: decomposed, as many codepoints as their worked length, or in normal form
abbrev pub StandsAs : Table → List Token → List ℕ → ℕ → Answer ℕ → Type 0
StandsAs t ts w worked None = Cells (decomposed t ts) w worked
StandsAs t ts w worked (Some n) = Cells (normal t ts) w n

abbrev pub StandingFits : Answer ℕ → Type 0
StandingFits None = Unit {0}
StandingFits (Some n) = n ≤ most_worked

-- they stand there in normal form, r codepoints; words beyond them are open
pub record Normalised (t : Table) (s : Answer ℕ) (worked : ℕ) (w w' : List ℕ) (r : ℕ) : Type 0 where
  pub same : length w' ≡ length w
  pub few : r ≤ most_worked
  pub cells : (ts : List Token) → StandsAs t ts w worked s → Cells (normal t ts) w' r

-- the tokens ts are counted, and stand in the work area; or their worked length is over the limit, and the number says just that
pub record Counted (t : Table) (ts : List Token) (w : List ℕ) (k : Tally) (s : Answer ℕ) : Type 0 where
  pub over : most_worked < k.worked → most_worked < worked t ts
  pub worked : k.worked ≤ most_worked → k.worked ≡ worked t ts
  pub emoji : k.emoji ≡ any is_emoji ts
  pub text : k.text ≡ any (λ x. not (is_emoji x)) ts
  pub cells : k.worked ≤ most_worked → StandsAs t ts w k.worked s

-- what is answered for the tokens of a label, which a scan has counted and laid down; without emoji there is at most one
pub record TokensJudged (t : Table) (done place : ℕ) (k : Tally) (s : Answer ℕ) (w w' : List ℕ) (r : Result JudgedLabel Refusal) : Type 0 where
  pub same : length w' ≡ length w
  pub is : (ts : List Token) → (any is_emoji ts ≡ false → length ts ≤ 1) → Counted t ts w k s → JudgementIs (judged t done place ts) done w' r

-- the scan that leaves text as it is gives nothing, or the tokens in normal form
pub record QuickTokens (t : Table) (l w : List ℕ) (n : ℕ) (k : Tally) : Type 0 where
  pub allowed : first_disallowed 0 (steps t l) ≡ none
  pub few : n ≤ most_worked
  pub counted : Counted t (tokens_of (steps t l)) w k (Some n)

abbrev pub QuickIs : Table → List ℕ → List ℕ → Answer Kept → Type 0
QuickIs t l w None = Unit {0}
QuickIs t l w (Some k) = QuickTokens t l w k.count k.tally

pub record QuickScans (t : Table) (l w w' : List ℕ) (r : Answer Kept) : Type 0 where
  pub same : length w' ≡ length w
  pub is : QuickIs t l w' r
