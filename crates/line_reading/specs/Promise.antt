-- What the functions of this crate promise, in the terms of Reading.antt.
use Rattle.std.specs.Prelude.{ℕ, ◌≤◌, ◌≡◌, cond, Option, Some, None, List, length, take, drop}
use Rattle.std.proofs.Math.Option.{none, some}
use Rattle.line_reading.specs.Reading.{is_number, value_of, read_line}

-- the answer for a word: its number, `None` where it is unreadable
unfoldable pub number_answer : List ℕ → Option ℕ
number_answer word = cond (is_number word) (Some (value_of word)) None

-- the numbers of the line stand in front, and what stood behind them stays; what an unreadable line leaves is open
pub record Read (line before after : List ℕ) (n : ℕ) : Type 0 where
  pub numbers : read_line line ≡ some (take n after)
  pub room : n ≤ length after
  pub kept : drop n after ≡ drop n before

abbrev pub Reads : List ℕ → List ℕ → List ℕ → Option ℕ → Type 0
Reads bytes before after (Some n) = Read bytes before after n
Reads bytes before after None = read_line bytes ≡ none
