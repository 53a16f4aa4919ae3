-- The same of calls that were made, each with an answer buffer and a work area of its own, whatever they held.
use Rattle.std.specs.Prelude.{ℕ, ◌≡◌, refl, List, [], ◌∷◌, length, take, Result}
use Rattle.std.proofs.Common.{ap, ◌∙◌}
use Rattle.lists.specs.Laws.{Every}
use Rattle.book_slots.specs.declared.Account.{Account}
use Rattle.book_slots.specs.Book.{front_size, account_size}
use Rattle.book_answers.specs.declared.BookError.{BookError}
use Rattle.book_answers.specs.Calls.{BookValues}
use Rattle.book_answers.specs.Promise.{done_values, find_values, Leaves, SaveCalls, FindCalls, ForgetCalls, ResetCalls}
use Rattle.book_map.specs.Map.{save, find, forget, Call, by, reset, book_call, map_answers, book_answers, area_left}
use Rattle.book_laws.specs.MapTheorem.{EightWords, zeroed, map_theorem}
use Rattle.book_laws.specs.FrontWords.{front_left}

-- calls in a row with one table and one setting: the area before them, the calls, their answers, and the area after them
pub data Runs (setting : ℕ) (words : List ℕ) : List ℕ → List Call → List BookValues → List ℕ → Type 0 where
  done : (area : List ℕ) → Runs setting words area [] [] area
  saved : (area area₁ area₂ name answer answer' work work' : List ℕ) (account : Account) (r : Result (Unit {0}) BookError) (cs : List Call) (vs : List BookValues)
      → length account.words ≡ account_size → SaveCalls setting words name account area area₁ answer answer' work work' r
      → Runs setting words area₁ cs vs area₂
      → Runs setting words area (by (save account.words) name (length answer) (length work) ∷ cs) (done_values r ∷ vs) area₂
  found : (area area₂ name answer answer' work work' : List ℕ) (r : Result Account BookError) (cs : List Call) (vs : List BookValues)
      → FindCalls setting words name area answer answer' work work' r → Runs setting words area cs vs area₂
      → Runs setting words area (by find name (length answer) (length work) ∷ cs) (find_values r ∷ vs) area₂
  forgotten : (area area₁ area₂ name answer answer' work work' : List ℕ) (r : Result (Unit {0}) BookError) (cs : List Call) (vs : List BookValues)
      → ForgetCalls setting words name area area₁ answer answer' work work' r → Runs setting words area₁ cs vs area₂
      → Runs setting words area (by forget name (length answer) (length work) ∷ cs) (done_values r ∷ vs) area₂
  wiped : (area area₁ area₂ answer answer' work work' : List ℕ) (r : Result (Unit {0}) BookError) (cs : List Call) (vs : List BookValues)
      → ResetCalls area area₁ answer answer' work work' r → Runs setting words area₁ cs vs area₂
      → Runs setting words area (reset (length answer) (length work) ∷ cs) (done_values r ∷ vs) area₂

module _ (setting : ℕ) (words : List ℕ) where
  -- one call, and those behind it
  module _ (area area₁ area₂ answer work : List ℕ) (c : Call) (v : BookValues) (cs : List Call) (vs : List BookValues)
      (l : Leaves (book_call setting words c area) v area₁ answer work)
      (h : (vs ≡ book_answers setting words area₁ cs) × (area₂ ≡ area_left setting words area₁ cs)) where
    one_more : (◌≡◌ {A = List BookValues} (v ∷ vs) (book_answers setting words area (c ∷ cs))) × (area₂ ≡ area_left setting words area (c ∷ cs))
    unfolding book_answers area_left
    one_more = (rw (l.values, h.0, l.area), h.1 ∙ rw l.area)

  -- what was answered and left is what the definitions say
  pub runs-answer : {area area' : List ℕ} {cs : List Call} {vs : List BookValues} → Runs setting words area cs vs area'
      → (vs ≡ book_answers setting words area cs) × (area' ≡ area_left setting words area cs)
  unfolding book_answers area_left book_call
  runs-answer (done area) = (refl, refl)
  runs-answer (saved area area₁ area₂ name answer answer' work work' account r cs vs e c rest) =
      one_more area area₁ area₂ answer' work' (by (save account.words) name (length answer) (length work)) (done_values r) cs vs c (runs-answer rest)
  runs-answer (found area area₂ name answer answer' work work' r cs vs c rest) =
      one_more area area area₂ answer' work' (by find name (length answer) (length work)) (find_values r) cs vs c (runs-answer rest)
  runs-answer (forgotten area area₁ area₂ name answer answer' work work' r cs vs c rest) =
      one_more area area₁ area₂ answer' work' (by forget name (length answer) (length work)) (done_values r) cs vs c (runs-answer rest)
  runs-answer (wiped area area₁ area₂ answer answer' work work' r cs vs c rest) =
      one_more area area₁ area₂ answer' work' (reset (length answer) (length work)) (done_values r) cs vs c (runs-answer rest)

  runs_eight : {area area' : List ℕ} {cs : List Call} {vs : List BookValues} → Runs setting words area cs vs area' → Every EightWords cs
  runs_eight (done area) = tt
  runs_eight (saved area area₁ area₂ name answer answer' work work' account r cs vs e c rest) = (e, runs_eight rest)
  runs_eight (found area area₂ name answer answer' work work' r cs vs c rest) = (tt, runs_eight rest)
  runs_eight (forgotten area area₁ area₂ name answer answer' work work' r cs vs c rest) = (tt, runs_eight rest)
  runs_eight (wiped area area₁ area₂ answer answer' work work' r cs vs c rest) = (tt, runs_eight rest)

  -- Calls from a zeroed area answered as a plain map does, and left the front words as they were.
  pub runs_as_map : (front area' : List ℕ) → length front ≡ front_size → (cs : List Call) (vs : List BookValues)
      → Runs setting words (zeroed front) cs vs area'
      → (vs ≡ map_answers setting words [] cs) × (take front_size area' ≡ take front_size (zeroed front))
  runs_as_map front area' h cs vs r =
      let a = runs-answer r in
      (a.0 ∙ map_theorem setting words front h cs (runs_eight r), ap (take front_size) a.1 ∙ front_left setting words cs (zeroed front))
