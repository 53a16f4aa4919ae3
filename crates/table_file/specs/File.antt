-- The words of the table of the counter program, by the bytes of its file. 01, "Names at the counter".
use Rattle.std.specs.Prelude.{ℕ, ◌/◌, cond, List, length, leb}
use Rattle.std.proofs.Math.Option.{Option, none, some}
use Rattle.answers.specs.Verdict.{Verdict, accepted, refused}
use Rattle.file_words.specs.FileWords.{file_words}

-- "reads the table file `names.tab` of at most 32,768 bytes"
abbrev pub most_file : ℕ
most_file = 32768

-- the words of such a file, at 4 bytes each, and the two that may be added are no more than this
abbrev pub most_table : ℕ
most_table = most_file / 4

-- the words that a file unpacks to
abbrev pub unpacked : Verdict (List ℕ) → Option (List ℕ)
unpacked (accepted words) = some words
unpacked (refused n p) = none

-- The words of the table, by the bytes of its file; none where it is "too long or doesn't unpack".
unfoldable pub table_words : List ℕ → Option (List ℕ)
unfolding file_words
table_words file = cond (leb (length file) most_file) (unpacked (file_words file)) none
