-- What the inner functions of this crate answer.
use Rattle.std.specs.Prelude.{ℕ, ◌≤◌, ◌≡◌, false, ◌||◌, List, length, take, drop, Result}
use Rattle.std.proofs.Math.Option.{none}
use Rattle.limits.specs.Limits.{most_worked}
use Rattle.ending.specs.Ends.{Judged}
use Rattle.table.specs.Table.{Table}
use Rattle.tokens.specs.Scan.{steps, first_disallowed}
use Rattle.tokens.specs.Tokens.{tokens_of, worked, normal, joined_text}
use Rattle.label.specs.Judge.{only_emoji, only_ascii}
use Rattle.listing.specs.Filling.{Holds}
use Rattle.respelled.specs.declared.RespelledError.{RespelledError}
use Rattle.respelled.specs.Respelled.{groups_for, respelled_before33, group_listing}
use Rattle.respelled.specs.Promise.{respelled_values}

-- 5 and 7 do not apply to the label alone, and it is neither emoji alone nor ASCII
pub record Passes (t : Table) (l : List ℕ) : Type 0 where
  pub no_5 : first_disallowed 0 (steps t l) ≡ none
  pub no_7 : worked t (tokens_of (steps t l)) ≤ most_worked
  pub mixed : (only_emoji (normal t (tokens_of (steps t l))) || only_ascii (normal t (tokens_of (steps t l)))) ≡ false

-- the text of the label, m codepoints, stands in the second half of the work area
pub record TextStands (t : Table) (l w w' : List ℕ) (m : ℕ) : Type 0 where
  pub same : length w' ≡ length w
  pub few : m ≤ most_worked
  pub text : take m (drop most_worked w') ≡ joined_text (normal t (tokens_of (steps t l)))

-- the groups of the label stand in the list, as far as they fit
pub record LabelListed (t : Table) (l list list' w w' : List ℕ) (r : ℕ) : Type 0 where
  pub holds : Holds (groups_for t l) list list' r
  pub same-work : length w' ≡ length w

-- how many entries an answer has
abbrev pub entries_of : Result ℕ RespelledError → ℕ
entries_of r = (respelled_values r).entries

-- what is judged before 33
abbrev pub RespelledJudged : List ℕ → List ℕ → List ℕ → List ℕ → List ℕ → List ℕ → Result ℕ RespelledError → Type 0
RespelledJudged words label list list' work work' r =
    Judged group_listing (respelled_before33 words label (length work)) list list' work work' (respelled_values r)
