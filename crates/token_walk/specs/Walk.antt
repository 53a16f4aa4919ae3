-- What the walk over the tokens of a label answers.
use Rattle.std.specs.Prelude.{ℕ, ◌≤◌, ◌≡◌, List, length, take}
use Rattle.std.proofs.Math.Option.{none}
use Rattle.limits.specs.Limits.{most_worked}
use Rattle.table.specs.Table.{Table}
use Rattle.tokens.specs.Scan.{steps, first_disallowed}
use Rattle.tokens.specs.Tokens.{codepoints, tokens_of, worked, normal_token}
use Rattle.places.specs.Places.{Source, token_of}
use Rattle.places.specs.Parts.{IsFirst}
use Rattle.token_extent.specs.Ends.{record_of}
use Rattle.token_walk.specs.declared.Walked.{Walked}

-- what the walk asks: there are tokens, no codepoint is disallowed, and the worked length keeps within the limit. A label that 5, 6 and 7
-- let pass is so, and what is left of it behind a token.
pub record Walkable (t : Table) (rest : List ℕ) : Type 0 where
  pub tokens : 1 ≤ length (tokens_of (steps t rest))
  pub allowed : first_disallowed 0 (steps t rest) ≡ none
  pub short : worked t (tokens_of (steps t rest)) ≤ most_worked

-- the first token of what is left of a label: its place, and its codepoints (NFC or stripped) in front in the work area
pub record Walks (t : Table) (rest w w' : List ℕ) (r : Walked) : Type 0 where
  pub source : Source
  pub is : IsFirst t rest source r.extent.end
  pub emoji : r.extent.emoji ≡ record_of source
  pub same : length w' ≡ length w
  pub few : r.length ≤ most_worked
  pub count : r.length ≡ length (codepoints (normal_token t (token_of source)))
  pub words : take r.length w' ≡ codepoints (normal_token t (token_of source))
