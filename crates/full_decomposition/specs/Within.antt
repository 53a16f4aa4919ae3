-- A form of a text, NFD or NFC, by a table, or why there is none. The refusals have numbers of their own, which neither 01 nor 02 gives: 50 for a text
-- whose full decomposition is longer than the worked length may be, 51 for a work area and 52 for an answer buffer in which the full decomposition has no
-- room, tried in this order. 52 is held to the length of the full decomposition for NFC too, since that is made in the answer buffer.
use Rattle.std.specs.Prelude.{ℕ, cond, List, length, leb, Ok, Err}
use Rattle.std.specs.Prelude as std
use Rattle.limits.specs.Limits.{most_worked}
use Rattle.answers.specs.Verdict.{Verdict, accepted, refused}
use Rattle.table.specs.Table.{Table}
use Rattle.text.specs.Decomposition.{four_rounds}
use Rattle.full_decomposition.specs.declared.FormError.{FormError}
use Rattle.full_decomposition.specs.declared.FormError.TheVariants.{LayoutFault, WorkedTooLong, WorkAreaTooSmall, BufferTooSmall}

-- what a call answers: the refusal number, 0 where there is none, and the length of the form, 0 beside a refusal
pub record FormValues : Type 0 where
  pub number : ℕ
  pub length : ℕ

-- the length of the form, or why there is none
abbrev pub FormAnswer : Type 0
FormAnswer = std.Result ℕ FormError

-- the number of each refusal
abbrev pub form_number : FormError → ℕ
form_number LayoutFault = 1
form_number WorkedTooLong = 50
form_number WorkAreaTooSmall = 51
form_number BufferTooSmall = 52

-- the number and the length of each case of the answer
abbrev pub form_values : FormAnswer → FormValues
form_values (Ok n) = record { number = 0; length = n }
form_values (Err e) = record { number = form_number e; length = 0 }

-- a length that is at most so many, or the refusal number n
abbrev pub at_most : {A : Type 0} → ℕ → ℕ → ℕ → Verdict A → Verdict A
at_most len most n v = cond (leb len most) v (refused n 0)

-- the form of a text by a table, with an answer buffer of `room` words and a work area of `work` words
unfoldable pub form_within : (Table → List ℕ → List ℕ) → Table → List ℕ → ℕ → ℕ → Verdict (List ℕ)
unfolding four_rounds
form_within form t text room work =
    let d = length (four_rounds t text) in
    at_most d most_worked 50 (at_most d work 51 (at_most d room 52 (accepted (form t text))))
