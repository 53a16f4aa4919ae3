-- What the functions of the program promise.
use Rattle.std.specs.Prelude.{ℕ, ◌≤◌, List, length, Option, Some, None, Result, Ok, Err}
use Rattle.answers.specs.declared.UnpackError.{UnpackError}
use Rattle.taking.specs.Promise.{most_piece, Moved}
use Rattle.taking.specs.declared.State.{State}

-- the words of a table that was read are in their buffer; which file was there is open
abbrev pub Loaded : ℕ → Result ℕ UnpackError → Type 0
Loaded room (Ok n) = n ≤ room
Loaded room (Err e) = Unit {0}

-- a piece that was read is taken; which bytes came is open
pub record Read (before after : List ℕ) (from to : State) : Type 0 where
  pub piece : List ℕ
  pub short : length piece ≤ most_piece
  pub moved : Moved piece before after from to

abbrev pub Reads : List ℕ → List ℕ → State → Option State → Type 0
Reads before after from (Some to) = Read before after from to
Reads before after from None = Unit {0}
