-- What the counter program writes. 01, "Names at the counter".
use Rattle.std.specs.Prelude.{ℕ, List}
use Rattle.std.proofs.Math.Option.{Option}
use Rattle.lists.specs.Lists.{on_some, and_then}
use Rattle.line_writing.specs.Writing.{bad_line}
use Rattle.lines.specs.Splitting.{lines_of, output}
use Rattle.table_file.specs.File.{table_words}
use Rattle.replying.specs.Lines.{reply_line}

-- The whole output, for the bytes of the table file, where there is one, and those of standard input: "A table file that is missing, too
-- long or doesn't unpack gives `bad` alone."
unfoldable pub counter_output : Option (List ℕ) → List ℕ → List ℕ
unfolding table_words output lines_of reply_line bad_line
counter_output file input = on_some (and_then file table_words) (λ words. output (reply_line words) 0 (lines_of input)) bad_line
