-- The two calls. 02, Item 2: "no room is 31, after 30"; 4 comes "before 31".
use Rattle.std.specs.Prelude.{ℕ, cond, List, length, replicate, ltb, Result, Ok, Err}
use Rattle.lists.specs.Filled.{filled}
use Rattle.answers.specs.Verdict.{Verdict, accepted, refused, next}
use Rattle.utf8.specs.declared.Utf8Error.{Utf8Error}
use Rattle.utf8.specs.declared.Utf8Error.TheVariants.{IllFormed, NotScalar, TooLittleRoom}
use Rattle.utf8_scheme.specs.Scheme.{read, write}

-- what either call answers
pub record Values : Type 0 where
  pub number : ℕ
  pub place : ℕ
  pub length : ℕ

abbrev pub given : ℕ → Values
given n = record { number = 0; place = 0; length = n }

-- "Any other value answered beside a refusal is 0."
abbrev pub beside : ℕ → ℕ → Values
beside n p = record { number = n; place = p; length = 0 }

-- the number, the place and the length of each case of the answers
abbrev pub utf8_values : Result ℕ Utf8Error → Values
utf8_values (Ok n) = given n
utf8_values (Err (IllFormed at)) = beside 30 at
utf8_values (Err (NotScalar at)) = beside 4 at
utf8_values (Err TooLittleRoom) = beside 31 0

-- "no room is 31"
abbrev pub fitting : ℕ → List ℕ → Verdict (List ℕ)
fitting room s = cond (ltb room (length s)) (refused 31 0) (accepted s)

-- what a call answers, and every element of the answer buffer afterwards
pub record Answer : Type 0 where
  pub values : Values
  pub answer : List ℕ

-- "the answer and then zeros"; after a refusal zeros alone. The buffer has `room` elements.
abbrev pub result_of : ℕ → Verdict (List ℕ) → Answer
result_of room (accepted s) = record { values = given (length s); answer = filled room s }
result_of room (refused n p) = record { values = beside n p; answer = replicate room 0 }

-- the reader on bytes, with an answer buffer of `room` words
unfoldable pub read_call : List ℕ → ℕ → Answer
unfolding read
read_call bytes room = result_of room (next (read bytes) (fitting room))

-- the writer on codepoints, with an answer buffer of `room` bytes
unfoldable pub write_call : List ℕ → ℕ → Answer
unfolding write
write_call codepoints room = result_of room (next (write codepoints) (fitting room))
