-- What the call promises, in the terms of Respelled.antt.
use Rattle.std.specs.Prelude.{ℕ, List, length, Result, Ok, Err}
use Rattle.answers.specs.Values.{number_of, place_of}
use Rattle.ending.specs.Ends.{Ends}
use Rattle.listing.specs.Listing.{ListValues}
use Rattle.respelled.specs.declared.RespelledError.{RespelledError}
use Rattle.respelled.specs.declared.RespelledError.TheVariants.{Refused, NoRoom}
use Rattle.respelled.specs.Respelled.{respelled_call}

-- the number and the place of each refusal
abbrev pub respelled_number : RespelledError → ℕ
respelled_number (Refused f) = number_of f
respelled_number NoRoom = 33

abbrev pub respelled_place : RespelledError → ℕ
respelled_place (Refused f) = place_of f
respelled_place NoRoom = 0

-- the values of each answer
abbrev pub respelled_values : Result ℕ RespelledError → ListValues
respelled_values (Ok n) = record { number = 0; place = 0; entries = n }
respelled_values (Err e) = record { number = respelled_number e; place = respelled_place e; entries = 0 }

-- the answer r, and every word of the list and of the work area, before the call and after it (')
abbrev pub RespelledCalls : List ℕ → List ℕ → List ℕ → List ℕ → List ℕ → List ℕ → Result ℕ RespelledError → Type 0
RespelledCalls words label list list' work work' r =
    Ends (respelled_call words label (length list) (length work)) (respelled_values r) list' work'
