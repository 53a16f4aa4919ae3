-- What the call promises, in the terms of Moved.antt.
use Rattle.std.specs.Prelude.{ℕ, List, length, Result, Ok, Err}
use Rattle.answers.specs.Values.{number_of, place_of}
use Rattle.ending.specs.Ends.{Ends}
use Rattle.listing.specs.Listing.{ListValues}
use Rattle.book_answers.specs.Calls.{area_number}
use Rattle.moved_list.specs.declared.MovedError.{MovedError}
use Rattle.moved_list.specs.declared.MovedError.TheVariants.{Area, Refused, NoRoom}
use Rattle.moved_list.specs.Moved.{moved_call}

-- the number and the place of each refusal
abbrev pub moved_number : MovedError → ℕ
moved_number (Area a) = area_number a
moved_number (Refused f) = number_of f
moved_number NoRoom = 33

abbrev pub moved_place : MovedError → ℕ
moved_place (Area a) = 0
moved_place (Refused f) = place_of f
moved_place NoRoom = 0

-- the values of each answer
abbrev pub moved_values : Result ℕ MovedError → ListValues
moved_values (Ok n) = record { number = 0; place = 0; entries = n }
moved_values (Err e) = record { number = moved_number e; place = moved_place e; entries = 0 }

-- the answer r, and every word of the list and of the work area, before the call and after it (')
abbrev pub MovedCalls : List ℕ → List ℕ → List ℕ → List ℕ → List ℕ → List ℕ → Result ℕ MovedError → Type 0
MovedCalls words area list list' work work' r = Ends (moved_call words area (length list) (length work)) (moved_values r) list' work'
