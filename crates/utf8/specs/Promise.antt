-- What the functions of this crate promise, in the terms of the scheme and of Calls.antt.
use Rattle.std.specs.Prelude.{ℕ, ◌-◌, ◌≡◌, cond, List, ◌++◌, length, take, replicate, ltb, Result, Ok, Err}
use Rattle.answers.specs.Verdict.{Verdict, accepted, refused}
use Rattle.utf8.specs.declared.Utf8Error.{Utf8Error}
use Rattle.utf8.specs.declared.Utf8Error.TheVariants.{IllFormed, NotScalar, TooLittleRoom}
use Rattle.utf8_scheme.specs.Scheme.{read, write}
use Rattle.utf8_encode.specs.Storing.{Holds}
use Rattle.utf8.specs.Calls.{Values, Answer, utf8_values, read_call, write_call}

-- a call has answered r: its values, and every element of the answer buffer
pub record Ends (r : Answer) (told : Values) (after : List ℕ) : Type 0 where
  pub values : told ≡ r.values
  pub answer : after ≡ r.answer

-- The reader: its answer r, and every word of the answer buffer, before and after the call.
abbrev pub ReadCalls : List ℕ → List ℕ → List ℕ → Result ℕ Utf8Error → Type 0
ReadCalls bytes before after r = Ends (read_call bytes (length before)) (utf8_values r) after

-- The writer: its answer r, and every byte of the answer buffer.
abbrev pub WriteCalls : List ℕ → List ℕ → List ℕ → Result ℕ Utf8Error → Type 0
WriteCalls codepoints before after r = Ends (write_call codepoints (length before)) (utf8_values r) after

-- what was read or written, before 31 is judged: it stands at the front, n elements
pub record Stands (v : Verdict (List ℕ)) (after : List ℕ) (n : ℕ) : Type 0 where
  pub text : List ℕ
  pub is : v ≡ accepted text
  pub holds : Holds text after n

-- .. or it is refused
abbrev pub IsFront : Verdict (List ℕ) → List ℕ → Result ℕ Utf8Error → Type 0
IsFront v after (Ok n) = Stands v after n
IsFront v after (Err (IllFormed at)) = v ≡ refused 30 at
IsFront v after (Err (NotScalar at)) = v ≡ refused 4 at
IsFront v after (Err TooLittleRoom) = ⊥

pub record HasFront (v : Verdict (List ℕ)) (before after : List ℕ) (r : Result ℕ Utf8Error) : Type 0 where
  pub same : length after ≡ length before
  pub is : IsFront v after r

abbrev pub ReadStands : List ℕ → List ℕ → List ℕ → Result ℕ Utf8Error → Type 0
ReadStands bytes before after r = HasFront (read bytes) before after r

abbrev pub WriteStands : List ℕ → List ℕ → List ℕ → Result ℕ Utf8Error → Type 0
WriteStands codepoints before after r = HasFront (write codepoints) before after r

-- a count that the buffer has no room for is no answer
abbrev pub within : ℕ → Result ℕ Utf8Error → Result ℕ Utf8Error
within room (Ok n) = cond (ltb room n) (Err TooLittleRoom) (Ok n)
within room (Err e) = Err e

-- the buffer beside an answer: so many elements are kept
abbrev pub cleared_for : {A : Type 0} → Result ℕ Utf8Error → List A → A → List A
cleared_for (Ok n) mid zero = take n mid ++ replicate (length mid - n) zero
cleared_for (Err e) mid zero = replicate (length mid) zero

-- the end of a call: its answer r, and every element of the answer buffer, before and after it
pub record Finishes {A : Type 0} (front : Result ℕ Utf8Error) (mid after : List A) (zero : A) (r : Result ℕ Utf8Error) : Type 0 where
  pub answer : r ≡ within (length mid) front
  pub cleared : after ≡ cleared_for r mid zero
