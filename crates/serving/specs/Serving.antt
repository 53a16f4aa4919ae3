-- What is lent to the end of the counter program's output.
use Rattle.std.specs.Prelude.{ℕ, ◌+◌, ◌≤◌, ◌^◌, ◌≡◌, List, length}
use Rattle.line_reading.specs.Reading.{first_at}
use Rattle.line_writing.specs.Writing.{most_end_line}
use Rattle.replying.specs.Lines.{reply_room}

-- room for all that is written once the input has ended
abbrev pub ending_room : ℕ
ending_room = reply_room + most_end_line

-- what is held of a last line, in which none ends; and room for all that is still to be written
pub record LastLine (line text : List ℕ) (names : ℕ) : Type 0 where
  pub unended : first_at 10 line ≡ length line
  pub count : names ≤ 2 ^ 63
  pub room : ending_room ≤ length text
