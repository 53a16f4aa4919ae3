-- What the calls promise, in the terms of Calls.antt.
use Rattle.std.specs.Prelude.{ℕ, ◌≡◌, List, length, Result, Ok, Err}
use Rattle.book_slots.specs.declared.Account.{Account}
use Rattle.book_answers.specs.declared.BookError.{BookError}
use Rattle.book_answers.specs.Calls.{BookValues, BookResult, book_number, book_place, no_account, save_call, find_call, forget_call, reset_call}

-- what an answer tells: the number 0 and the words of an account, or a refusal's number and place, and no account
abbrev pub book_values : {A : Type 0} → (A → List ℕ) → Result A BookError → BookValues
book_values account (Ok x) = record { number = 0; place = 0; account = account x }
book_values account (Err e) = record { number = book_number e; place = book_place e; account = no_account }

-- save, forget and reset answer only success
abbrev pub done_values : {A : Type 0} → Result A BookError → BookValues
done_values r = book_values (λ x. no_account) r

abbrev pub find_values : Result Account BookError → BookValues
find_values r = book_values (λ (a : Account). a.words) r

-- a call has answered r: its values, and every word of the area, of the answer buffer and of the work area
pub record Leaves (r : BookResult) (told : BookValues) (area' answer' work' : List ℕ) : Type 0 where
  pub values : told ≡ r.values
  pub area : area' ≡ r.area
  pub answer : answer' ≡ r.answer
  pub work : work' ≡ r.work

-- The four calls: the answer r, and every word of the area, of the answer buffer and of the work area, before the call and after it (').
abbrev pub SaveCalls : ℕ → List ℕ → List ℕ → Account → List ℕ → List ℕ → List ℕ → List ℕ → List ℕ → List ℕ → Result (Unit {0}) BookError → Type 0
SaveCalls setting words name account area area' answer answer' work work' r =
    Leaves (save_call setting words name account.words area (length answer) (length work)) (done_values r) area' answer' work'

-- find is lent the area to read alone
abbrev pub FindCalls : ℕ → List ℕ → List ℕ → List ℕ → List ℕ → List ℕ → List ℕ → List ℕ → Result Account BookError → Type 0
FindCalls setting words name area answer answer' work work' r =
    Leaves (find_call setting words name area (length answer) (length work)) (find_values r) area answer' work'

abbrev pub ForgetCalls : ℕ → List ℕ → List ℕ → List ℕ → List ℕ → List ℕ → List ℕ → List ℕ → List ℕ → Result (Unit {0}) BookError → Type 0
ForgetCalls setting words name area area' answer answer' work work' r =
    Leaves (forget_call setting words name area (length answer) (length work)) (done_values r) area' answer' work'

abbrev pub ResetCalls : List ℕ → List ℕ → List ℕ → List ℕ → List ℕ → List ℕ → Result (Unit {0}) BookError → Type 0
ResetCalls area area' answer answer' work work' r =
    Leaves (reset_call area (length answer) (length work)) (done_values r) area' answer' work'
