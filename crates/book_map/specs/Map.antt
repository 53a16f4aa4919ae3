-- "a plain map of at most 64 entries from normal forms to accounts", and what it answers to the calls of the book. The map is a list of
-- entries, of which no two have the same form.
use Rattle.std.specs.Prelude.{ℕ, not, cond, List, [], ◌∷◌, length, ltb}
use Rattle.std.proofs.Math.Option.{Option, none, some}
use Rattle.lists.specs.Lists.{keep, on_some, same_list}
use Rattle.answers.specs.Verdict.{Verdict, accepted, refused, next}
use Rattle.book_answers.specs.Calls.{BookValues, BookResult, no_account, form_for, save_call, find_call, forget_call, reset_call}

-- a form and the account that it leads to
pub record Entry : Type 0 where
  pub form : List ℕ
  pub account : List ℕ

-- the account that a form leads to
unfoldable pub lookup : List ℕ → List Entry → Option (List ℕ)
lookup form [] = none
lookup form (e ∷ m) = let later = lookup form m in cond (same_list e.form form) (some e.account) later

-- the map without a form
unfoldable pub without : List ℕ → List Entry → List Entry
without form m = keep (λ e. not (same_list e.form form)) m

-- the map in which a form leads to an account
unfoldable pub leading : List ℕ → List ℕ → List Entry → List Entry
unfolding without
leading form account m = record { form = form; account = account } ∷ without form m

-- "at most 64 entries"
abbrev pub most_entries : ℕ
most_entries = 64

-- what a call leaves of the map, and the account that it answers
pub record Changed : Type 0 where
  pub map : List Entry
  pub account : List ℕ

-- a form that the map has leads to the new account; another one is entered while there are fewer than 64, else 45
unfoldable pub map_save : List ℕ → List ℕ → List Entry → Verdict Changed
unfolding lookup leading no_account
map_save account form m =
    let saved : Verdict Changed = accepted (record { map = leading form account m; account = no_account }) in
    on_some (lookup form m) (λ old. saved) (cond (ltb (length m) most_entries) saved (refused 45 0))

-- the account that the form leads to, else 44
unfoldable pub map_find : List ℕ → List Entry → Verdict Changed
unfolding lookup
map_find form m = on_some (lookup form m) (λ found. accepted (record { map = m; account = found })) (refused 44 0)

-- the form is taken away, else 44
unfoldable pub map_forget : List ℕ → List Entry → Verdict Changed
unfolding lookup without no_account
map_forget form m = on_some (lookup form m) (λ old. accepted (record { map = without form m; account = no_account })) (refused 44 0)

-- A call: what it does, the name, and the lengths of the answer buffer and of the work area that it is lent. What the two hold before the
-- call changes nothing.
pub data Job : Type 0 where
  save : (account : List ℕ) → Job
  find : Job
  forget : Job

pub data Call : Type 0 where
  by : Job → (name : List ℕ) → (room work : ℕ) → Call
  reset : (room work : ℕ) → Call

abbrev pub map_job : Job → List ℕ → List Entry → Verdict Changed
map_job (save account) form m = map_save account form m
map_job find form m = map_find form m
map_job forget form m = map_forget form m

-- what the map answers, and what it is afterwards: a refusal leaves it as it is
pub record MapResult : Type 0 where
  pub values : BookValues
  pub map : List Entry

abbrev pub map_result : List Entry → Verdict Changed → MapResult
map_result m (accepted c) = record { values = record { number = 0; place = 0; account = c.account }; map = c.map }
map_result m (refused n p) = record { values = record { number = n; place = p; account = no_account }; map = m }

-- The map's side of a call, with one setting and one table: the form under which the name is filed, or the refusal of the name call, 42 or
-- 43, which the map answers too; then what is done with the map. Reset empties it.
unfoldable pub map_call : ℕ → List ℕ → Call → List Entry → MapResult
unfolding form_for map_save map_find map_forget no_account
map_call setting words (by job name room work) m = map_result m (next (form_for setting words name room work) (λ form. map_job job form m))
map_call setting words (reset room work) m = map_result m (accepted (record { map = []; account = no_account }))

-- the book's side
unfoldable pub book_call : ℕ → List ℕ → Call → List ℕ → BookResult
unfolding save_call find_call forget_call reset_call
book_call setting words (by (save account) name room work) area = save_call setting words name account area room work
book_call setting words (by find name room work) area = find_call setting words name area room work
book_call setting words (by forget name room work) area = forget_call setting words name area room work
book_call setting words (reset room work) area = reset_call area room work

-- the answers to a sequence of calls, each on what the one before it left
unfoldable pub map_answers : ℕ → List ℕ → List Entry → List Call → List BookValues
unfolding map_call
map_answers setting words m [] = []
map_answers setting words m (c ∷ cs) =
    (map_call setting words c m).values ∷ map_answers setting words (map_call setting words c m).map cs

unfoldable pub book_answers : ℕ → List ℕ → List ℕ → List Call → List BookValues
unfolding book_call
book_answers setting words area [] = []
book_answers setting words area (c ∷ cs) =
    (book_call setting words c area).values ∷ book_answers setting words (book_call setting words c area).area cs

-- the area that a sequence of calls leaves
unfoldable pub area_left : ℕ → List ℕ → List ℕ → List Call → List ℕ
unfolding book_call
area_left setting words area [] = area
area_left setting words area (c ∷ cs) = area_left setting words (book_call setting words c area).area cs
