-- A closed sequence of calls by the small table: 41 and 61 are two spellings of one payee.
use Rattle.std.specs.Prelude.{ℕ, ◌≡◌, refl, List, [], ◌∷◌, length}
use Rattle.std.proofs.Common.{◌∙◌}
use Rattle.limits.specs.Limits.{least_work}
use Rattle.book_slots.specs.Book.{front_size}
use Rattle.book_answers.specs.Calls.{BookValues}
use Rattle.cases.specs.SmallTable.{small_table}
use Rattle.book_map.specs.Map.{Call, by, reset, save, find, forget, map_answers, book_answers}
use Rattle.book_laws.specs.MapTheorem.{zeroed, map_theorem}

abbrev account : ℕ → List ℕ
account n = n ∷ 0 ∷ 0 ∷ 0 ∷ 0 ∷ 0 ∷ 0 ∷ 0 ∷ []

abbrev told : ℕ → List ℕ → BookValues
told n a = record { number = n; place = 0; account = a }

-- find before anything is saved; save; find by the other spelling; save again by that spelling; find; the empty name; a name that is refused at
-- its second codepoint; too small a work area; no room for the answer; forget; find; reset
abbrev pub calls : List Call
calls =
    by find (0x61 ∷ []) 8 least_work ∷ by (save (account 7)) (0x41 ∷ []) 8 least_work ∷ by find (0x61 ∷ []) 8 least_work ∷ by (save (account 9)) (0x61 ∷ []) 1 least_work
    ∷ by find (0x41 ∷ []) 8 least_work ∷ by find [] 8 least_work ∷ by find (0x61 ∷ 0x21 ∷ []) 8 least_work ∷ by find (0x61 ∷ []) 8 9 ∷ by find (0x61 ∷ []) 0 least_work
    ∷ by forget (0x61 ∷ []) 8 least_work ∷ by find (0x41 ∷ []) 8 least_work ∷ reset 0 0 ∷ []

abbrev pub due : List BookValues
due =
    told 44 (account 0) ∷ told 0 (account 0) ∷ told 0 (account 7) ∷ told 0 (account 0) ∷ told 0 (account 9) ∷ told 42 (account 0)
    ∷ record { number = 5; place = 1; account = account 0 } ∷ told 2 (account 0) ∷ told 15 (account 0) ∷ told 0 (account 0) ∷ told 44 (account 0)
    ∷ told 0 (account 0) ∷ []

map_answers_lem : map_answers 0 small_table [] calls ≡ due
unfolding map_answers small_table
map_answers_lem = refl

-- so does the book, from any front words
pub book_answers_lem : (front : List ℕ) → length front ≡ front_size → book_answers 0 small_table (zeroed front) calls ≡ due
book_answers_lem front h =
    map_theorem 0 small_table front h calls (tt, (refl, (tt, (refl, (tt, (tt, (tt, (tt, (tt, (tt, (tt, (tt, tt)))))))))))) ∙ map_answers_lem
