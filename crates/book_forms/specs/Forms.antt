-- What the functions of this crate and of `book_filing` answer.
use Rattle.std.specs.Prelude.{ℕ, ◌≤◌, ◌≡◌, List, length, map, take, Result, Ok, Err}
use Rattle.std.specs.Borrow.{Bor}
use Rattle.answers.specs.Verdict.{Verdict, accepted, refused, next}
use Rattle.book_slots.specs.Book.{form_room, slot_of, slots_in}
use Rattle.book_answers.specs.declared.AreaError.{AreaError}
use Rattle.book_answers.specs.declared.BookError.{BookError}
use Rattle.book_answers.specs.Calls.{area_number, book_number, book_place, opened}

-- 40 and 41 of an area, or its slots
abbrev pub OpeningIs : List ℕ → Result (Bor (List (List ℕ))) AreaError → Type 0
OpeningIs area (Err a) = opened area ≡ refused (area_number a) 0
OpeningIs area (Ok slots) = (opened area ≡ accepted (slots_in area)) × (map slot_of slots.now ≡ slots_in area)

-- the verdict on a form that an answer stands for
abbrev pub filed_by : {A : Type 0} → Result A BookError → List ℕ → Verdict (List ℕ)
filed_by (Ok x) form = accepted form
filed_by (Err e) form = refused (book_number e) (book_place e)

-- a form that can be filed, v, stands in the first n places of the answer buffer
pub record Stands (v : Verdict (List ℕ)) (answer : List ℕ) (n : ℕ) : Type 0 where
  pub form : v ≡ accepted (take n answer)
  pub short : n ≤ form_room
  pub fits : n ≤ length answer

-- what is answered of an area and of a form whose verdict is v, after the answer buffer and the work area have been used: the refusals in their
-- order, or the length of the form
abbrev pub FilingIs : List ℕ → Verdict (List ℕ) → List ℕ → Result ℕ BookError → Type 0
FilingIs area v answer (Err e) = next (opened area) (λ slots. v) ≡ refused (book_number e) (book_place e)
FilingIs area v answer (Ok n) = (opened area ≡ accepted (slots_in area)) × Stands v answer n

pub record Files (area : List ℕ) (v : Verdict (List ℕ)) (answer answer' work work' : List ℕ) (r : Result ℕ BookError) : Type 0 where
  pub same : length answer' ≡ length answer
  pub same-work : length work' ≡ length work
  pub is : FilingIs area v answer' r
