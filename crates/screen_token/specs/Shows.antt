-- What the writers of a token of the screen form answer.
use Rattle.std.specs.Prelude.{ℕ, ◌+◌, ◌≤◌, ◌≡◌, Bool, true, false, List, [], map, length, get_or, take, Option as Answer, Some, None}
use Rattle.std.proofs.Common.{arith}
use Rattle.limits.specs.Limits.{most_worked}
use Rattle.table.specs.Table.{Table}
use Rattle.table.specs.Layout.{most_items}
use Rattle.name.specs.Parts.{Put}
use Rattle.token_walk.specs.declared.Walked.{Walked}
use Rattle.forms.specs.Forms.{shown}

-- no token is longer than the worked length may be; it only bounds a sum
pub sequence_in_worked : most_items ≤ most_worked
sequence_in_worked = omega arith

-- the first n words are shown as in a label that is not Greek; those behind them are open
pub record ShowsText (w w' : List ℕ) (n : ℕ) : Type 0 where
  pub same : length w' ≡ length w
  pub front : take n w' ≡ map (shown false) (take n w)

-- what is written for a token: the sequence of an emoji's record, or the first n codepoints of w as a text is shown
abbrev pub words_of : Table → Bool → Answer ℕ → ℕ → List ℕ → List ℕ
words_of t greek (Some m) n w = get_or t.emoji m []
words_of t greek None n w = map (shown greek) (take n w)

-- for the token that the walk answered, where its codepoints stand in front in w
abbrev pub token_words : Table → Bool → Walked → List ℕ → List ℕ
token_words t greek x w = words_of t greek x.extent.emoji x.length w

-- the token is put behind the first `at` words of the answer, if there is room, and `end` is the length with it
pub record ShowsToken (t : Table) (greek : Bool) (x : Walked) (w before after : List ℕ) (at end : ℕ) : Type 0 where
  pub put : Put before after at true (token_words t greek x w) end
  pub near : end ≤ at + most_worked
