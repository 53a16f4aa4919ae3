-- What the calls of 02, Item 14, promise with every answer as plain numbers: the definitions of the calls.
use Rattle.std.specs.Prelude.{ℕ, List, length}
use Rattle.ending.specs.Ends.{Ends}
use Rattle.listing.specs.Listing.{ListValues}
use Rattle.moved_list.specs.Moved.{moved_call}
use Rattle.respelled.specs.Respelled.{respelled_call}
use Rattle.listing_crossing.specs.declared.WanlophengList.{WanlophengList}

-- the values that the fields stand for
abbrev pub list_fields : WanlophengList → ListValues
list_fields r = record { number = r.number; place = r.place; entries = r.entries }

-- Every field of the answer r, and every word of the list and of the work area, before the call and after it (').
abbrev pub MovedCrosses : List ℕ → List ℕ → List ℕ → List ℕ → List ℕ → List ℕ → WanlophengList → Type 0
MovedCrosses words area list list' work work' r = Ends (moved_call words area (length list) (length work)) (list_fields r) list' work'

abbrev pub RespelledCrosses : List ℕ → List ℕ → List ℕ → List ℕ → List ℕ → List ℕ → WanlophengList → Type 0
RespelledCrosses words label list list' work work' r = Ends (respelled_call words label (length list) (length work)) (list_fields r) list' work'
