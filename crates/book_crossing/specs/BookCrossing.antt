-- What the calls of the payee book promise with every answer as plain numbers: the definitions of the calls.
use Rattle.std.specs.Prelude.{ℕ, List, length}
use Rattle.book_slots.specs.declared.Account.{Account}
use Rattle.book_answers.specs.Calls.{BookValues, no_account, save_call, find_call, forget_call, reset_call}
use Rattle.book_answers.specs.Promise.{Leaves}
use Rattle.book_crossing.specs.declared.WanlophengBook.{WanlophengBook}
use Rattle.book_crossing.specs.declared.WanlophengFound.{WanlophengFound}

-- the values that the fields stand for, beside an account
abbrev pub book_fields : WanlophengBook → List ℕ → BookValues
book_fields r account = record { number = r.number; place = r.place; account = account }

abbrev pub found_fields : WanlophengFound → BookValues
found_fields r = record { number = r.number; place = r.place; account = r.account.words }

-- The four calls: every field of the answer r, and every word of the area, of the answer buffer and of the work area, before the call and after
-- it (').
abbrev pub SaveCrosses : ℕ → List ℕ → List ℕ → Account → List ℕ → List ℕ → List ℕ → List ℕ → List ℕ → List ℕ → WanlophengBook → Type 0
SaveCrosses setting words name account area area' answer answer' work work' r =
    Leaves (save_call setting words name account.words area (length answer) (length work)) (book_fields r no_account) area' answer' work'

abbrev pub FindCrosses : ℕ → List ℕ → List ℕ → List ℕ → List ℕ → List ℕ → List ℕ → List ℕ → WanlophengFound → Type 0
FindCrosses setting words name area answer answer' work work' r =
    Leaves (find_call setting words name area (length answer) (length work)) (found_fields r) area answer' work'

abbrev pub ForgetCrosses : ℕ → List ℕ → List ℕ → List ℕ → List ℕ → List ℕ → List ℕ → List ℕ → List ℕ → WanlophengBook → Type 0
ForgetCrosses setting words name area area' answer answer' work work' r =
    Leaves (forget_call setting words name area (length answer) (length work)) (book_fields r no_account) area' answer' work'

abbrev pub ResetCrosses : List ℕ → List ℕ → List ℕ → List ℕ → List ℕ → List ℕ → WanlophengBook → Type 0
ResetCrosses area area' answer answer' work work' r =
    Leaves (reset_call area (length answer) (length work)) (book_fields r no_account) area' answer' work'
