-- What `take_line` promises, in the terms of Splitting.antt.
use Rattle.std.specs.Prelude.{ℕ, ◌≤◌, ◌<◌, ◌≡◌, List, [], ◌∷◌, ◌++◌, length, take, drop}
use Rattle.line_reading.specs.Reading.{most_line, first_at}
use Rattle.lines.specs.Splitting.{lines_of}
use Rattle.lines.specs.declared.splitting.Taken.{Taken}
use Rattle.lines.specs.declared.splitting.Taken.TheVariants.{Line as Ended, Part, TooLong}

-- `held` bytes of a line stand in the line buffer, and no line ends in them
pub record Holding (line : List ℕ) (held : ℕ) : Type 0 where
  pub room : length line ≡ most_line
  pub count : held ≤ most_line
  pub unended : first_at 10 (take held line) ≡ held

-- A line has ended in the piece: it is the first of the input's lines, and the others are those behind the bytes used, whatever comes
-- after the piece.
pub record LineEnded (held piece after : List ℕ) (len used : ℕ) : Type 0 where
  pub room : length after ≡ most_line
  pub short : len ≤ most_line
  pub some : 1 ≤ used
  pub within : used ≤ length piece
  pub lines : (rest : List ℕ) → lines_of (held ++ (piece ++ rest)) ≡ take len after ∷ lines_of (drop used piece ++ rest)

-- No line has ended: all of the piece is held behind what was.
pub record PieceHeld (held piece after : List ℕ) (len : ℕ) : Type 0 where
  pub holding : Holding after len
  pub text : take len after ≡ held ++ piece

-- The first line is too long, whatever comes after the piece.
abbrev pub first_line : List (List ℕ) → List ℕ
first_line [] = []
first_line (l ∷ ls) = l

abbrev pub LineTooLong : List ℕ → List ℕ → Type 0
LineTooLong held piece = (rest : List ℕ) → most_line < length (first_line (lines_of (held ++ (piece ++ rest))))

abbrev pub Takes : List ℕ → List ℕ → List ℕ → Taken → Type 0
Takes held piece after (Ended len used) = LineEnded held piece after len used
Takes held piece after (Part len) = PieceHeld held piece after len
Takes held piece after TooLong = LineTooLong held piece
