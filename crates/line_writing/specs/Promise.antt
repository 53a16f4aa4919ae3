-- What the functions of this crate ask, in the terms of Writing.antt.
use Rattle.std.specs.Prelude.{ℕ, ◌+◌, ◌*◌, ◌≤◌, List, length}
use Rattle.numerals.specs.Numeral.{numeral}
use Rattle.answers.specs.Values.{NameValues}
use Rattle.line_writing.specs.Writing.{most_no_line}

-- a base of 2 to 16, and room for a blank and the digits
pub record SpacedRoom (base n : ℕ) (out : List ℕ) : Type 0 where
  pub least : 2 ≤ base
  pub most : base ≤ 16
  pub room : 1 + length (numeral base n) ≤ length out

-- the answer is in its buffer, and there is room for the longest line
pub record AnswerRoom (values : NameValues) (buffer out : List ℕ) : Type 0 where
  pub within : values.length ≤ length buffer
  pub room : 9 * length buffer + most_no_line ≤ length out
