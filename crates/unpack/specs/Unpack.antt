-- Unpacking a table file. 01, "The table", first paragraph; 02, Item 9.
use Rattle.std.specs.Prelude.{ℕ, cond, List, length, replicate, leb}
use Rattle.lists.specs.Filled.{filled}
use Rattle.answers.specs.Verdict.{Verdict, accepted, refused}
use Rattle.answers.specs.Values.{UnpackValues}
use Rattle.file_words.specs.FileWords.{file_words}

-- "an answer buffer too small as 22, in that order"; "(one word more, 0, which 22 and the answered count include)"
abbrev pub with_room : ℕ → Verdict (List ℕ) → Verdict (List ℕ)
with_room room (accepted ws) = cond (leb (length ws) room) (accepted ws) (refused 22 0)
with_room room (refused n p) = refused n p

-- what the call answers, and every word of the answer buffer afterwards
pub record Unpacking : Type 0 where
  pub values : UnpackValues
  pub answer : List ℕ

-- "On success it answers the count, and words past the table are zero"; "refuses (answer buffer zeroed)"
abbrev pub unpacking : ℕ → Verdict (List ℕ) → Unpacking
unpacking room (accepted ws) = record { values = record { number = 0; count = length ws }; answer = filled room ws }
unpacking room (refused n p) = record { values = record { number = n; count = 0 }; answer = replicate room 0 }

-- the unpack call on a file's bytes, with an answer buffer of `room` words
unfoldable pub unpack_call : List ℕ → ℕ → Unpacking
unfolding file_words
unpack_call file room = unpacking room (with_room room (file_words file))
