-- What the functions of this crate promise.
use Rattle.std.specs.Prelude.{ℕ, ◌+◌, ◌≤◌, ◌≡◌, Bool, true, List, ◌++◌, length, take, Option, Some, None}
use Rattle.lists.specs.Lists.{is_some}
use Rattle.lists.specs.Laws.{Every}
use Rattle.line_reading.specs.Reading.{read_line}
use Rattle.lines.specs.Splitting.{lines_of}
use Rattle.lines.specs.Promise.{Holding}
use Rattle.taking.specs.declared.State.{State}

-- where it answers to go on, the line was readable; whether it could be written is open
abbrev pub Serves : List ℕ → Bool → Type 0
Serves line r = r ≡ true → is_some (read_line line) ≡ true

-- a line is held that has not ended, and at most so many names are done
pub record Ready (line : List ℕ) (state : State) (most : ℕ) : Type 0 where
  pub holding : Holding line state.held
  pub count : state.names ≤ most

-- The lines of what was held, the piece and the rest, whatever that is, are those served, each of them readable, and then those of what is
-- held now and the rest.
pub record Served (held piece now : List ℕ) (lines : List (List ℕ)) : Type 0 where
  pub cut : (rest : List ℕ) → lines_of (held ++ (piece ++ rest)) ≡ lines ++ lines_of (now ++ rest)
  pub readable : Every (λ line. is_some (read_line line) ≡ true) lines
  pub few : length lines ≤ length piece

-- From one state to the next, over a piece of the input: the count of names grows by as many as were served.
pub record Moved (piece before after : List ℕ) (from to : State) : Type 0 where
  pub lines : List (List ℕ)
  pub served : Served (take from.held before) piece (take to.held after) lines
  pub names : to.names ≡ from.names + length lines
  pub holding : Holding after to.held

-- Where the program stops, at an unreadable line or since nothing more can be written, what is held is open.
abbrev pub StepIs : List ℕ → List ℕ → List ℕ → State → Option State → Type 0
StepIs piece before after from (Some to) = Moved piece before after from to
StepIs piece before after from None = Unit {0}

-- a piece is taken, by the case of the answer
pub record Takes (piece before after : List ℕ) (from : State) (r : Option State) : Type 0 where
  pub is : StepIs piece before after from r

-- the most bytes of a piece
abbrev pub most_piece : ℕ
most_piece = 4096
