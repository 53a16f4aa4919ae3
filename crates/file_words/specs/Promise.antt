-- What the functions of this crate promise, in the terms of FileWords.antt.
use Rattle.std.specs.Prelude.{ℕ, ◌+◌, ◌-◌, ◌*◌, ◌/◌, ◌≡◌, List, ◌++◌, length, drop, replicate, Result, Ok, Err}
use Rattle.answers.specs.Verdict.{accepted, refused}
use Rattle.answers.specs.declared.UnpackError.{UnpackError}
use Rattle.answers.specs.declared.UnpackError.TheVariants.{WrongVersion, WrongLength, TooLittleRoom}
use Rattle.file_words.specs.FileWords.{words_of, file_words}

-- the number of words that a file has room for
abbrev pub own_words : List ℕ → ℕ
own_words file = (length file - 5) / 4

-- A file whose version and length are right: its own words, and those of the sections that it lacks, are n.
pub record Holds (file : List ℕ) (n : ℕ) : Type 0 where
  pub lack : ℕ
  pub sum : n ≡ own_words file + lack
  pub words : file_words file ≡ accepted (words_of (drop 5 file) ++ replicate lack 0)
  pub long : length file ≡ 5 + 4 * own_words file

-- What an answer says of a file before the room for its words is looked at: here there is no refusal 22.
abbrev pub Inspected : List ℕ → Result ℕ UnpackError → Type 0
Inspected file (Ok n) = Holds file n
Inspected file (Err WrongVersion) = file_words file ≡ refused 20 0
Inspected file (Err WrongLength) = file_words file ≡ refused 21 0
Inspected file (Err TooLittleRoom) = ⊥
