-- From a zeroed area 40 and 41 never occur.
use Rattle.std.specs.Prelude.{ℕ, ◌≤◌, ◌≡◌, Bool, cond, length, eqb, ltb}
use native.Mathlib.Omega.{arith}
use Rattle.std.proofs.Math.Bool.{true, false}
use mathlib.Core.List.{List, [], ◌∷◌}
use Rattle.lists.specs.Laws.{Every}
use Rattle.answers.specs.Verdict.{Verdict, accepted, refused, next}
use Rattle.ending.specs.Numbers.{Refuses, refuses-some, refuses-next}
use Rattle.name.specs.Label.{Label}
use Rattle.name.specs.Name.{name_verdict, name_result, name_call}
use Rattle.meaning.specs.Numbers.{OfCall, name_refuses}
use Rattle.book_slots.specs.Book.{front_size, form_room}
use Rattle.book_answers.specs.Calls.{no_account, form_of, fileable, form_for}
use Rattle.book_map.specs.Map.{Entry, lookup, leading, most_entries, Changed, map_save, map_find, map_forget, Job, save, find, forget, Call, by, reset, map_job, map_result, map_call, map_answers, book_answers}
use Rattle.book_laws.specs.Found.{form_in}
use Rattle.book_laws.specs.MapTheorem.{EightWords, zeroed, map_theorem}

-- a number that is neither 40 nor 41
abbrev pub Neither : ℕ → Type 0
Neither n = (n ≡ 40 → ⊥) × (n ≡ 41 → ⊥)

small : (n : ℕ) → n ≤ 17 → Neither n
small n h = (λ e. omega arith, λ e. omega arith)

large : (n : ℕ) → 42 ≤ n → Neither n
large n h = (λ e. omega arith, λ e. omega arith)

module _ (setting : ℕ) (words name : List ℕ) (room work : ℕ) where
  -- the name call's numbers are at most 17
  name_small : (name_call setting words name room work).values.number ≤ 17
  unfolding name_call name_result
  name_small = go (name_verdict setting words name room work) (name_refuses setting words name work room)
    where
      go : (v : Verdict (List Label)) → Refuses (OfCall setting words name work) v → (name_result name room work v).values.number ≤ 17
      go (accepted ls) h = omega arith
      go (refused n p) h = h.1

  fileable-refuses : (f : List ℕ) → Refuses Neither (fileable f)
  fileable-refuses [] = large 42 (omega arith)
  fileable-refuses (c ∷ f) = go (ltb form_room (length (c ∷ f)))
    where
      go : (b : Bool) → Refuses Neither (cond b (refused 43 0) (accepted (c ∷ f)))
      go true = large 43 (omega arith)
      go false = tt

  form_refuses : Refuses Neither (form_for setting words name room work)
  unfolding form_for
  form_refuses = refuses-next Neither (form_of (name_call setting words name room work)) fileable (go (eqb (name_call setting words name room work).values.number 0) (accepted (form_in (name_call setting words name room work))) tt) fileable-refuses
    where
      go : (b : Bool) (v : Verdict (List ℕ)) → Refuses Neither v
          → Refuses Neither (cond b v (refused (name_call setting words name room work).values.number (name_call setting words name room work).values.place))
      go true v h = h
      go false v h = small (name_call setting words name room work).values.number name_small

job_refuses : (j : Job) (f : List ℕ) (m : List Entry) → Refuses Neither (map_job j f m)
unfolding map_save map_find map_forget
job_refuses (save account) f m =
    refuses-some Neither (lookup f m) _ _ (λ old. tt) (go (ltb (length m) most_entries) (accepted (record { map = leading f account m; account = no_account })) tt)
  where
    go : (b : Bool) (v : Verdict Changed) → Refuses Neither v → Refuses Neither (cond b v (refused 45 0))
    go true v h = h
    go false v h = large 45 (omega arith)
job_refuses find f m = refuses-some Neither (lookup f m) _ _ (λ found. tt) (large 44 (omega arith))
job_refuses forget f m = refuses-some Neither (lookup f m) _ _ (λ old. tt) (large 44 (omega arith))

result_neither : (m : List Entry) (v : Verdict Changed) → Refuses Neither v → Neither (map_result m v).values.number
result_neither m (accepted c) h = small 0 (omega arith)
result_neither m (refused n p) h = h

module _ (setting : ℕ) (words : List ℕ) where
  call_neither : (c : Call) (m : List Entry) → Neither (map_call setting words c m).values.number
  unfolding map_call
  call_neither (by j name room work) m =
      result_neither m (next (form_for setting words name room work) (λ f. map_job j f m))
      (refuses-next Neither (form_for setting words name room work) (λ f. map_job j f m) (form_refuses setting words name room work)
      (λ f. job_refuses j f m))
  call_neither (reset room work) m = small 0 (omega arith)

  answers_neither : (cs : List Call) (m : List Entry) → Every (λ v. Neither v.number) (map_answers setting words m cs)
  unfolding map_answers
  answers_neither [] m = tt
  answers_neither (c ∷ cs) m = (call_neither c m, answers_neither cs (map_call setting words c m).map)

  -- "40 and 41 never occur"
  pub never_40_41 : (front : List ℕ) → length front ≡ front_size → (cs : List Call) → Every EightWords cs
      → Every (λ v. Neither v.number) (book_answers setting words (zeroed front) cs)
  never_40_41 front h cs l = rw (map_theorem setting words front h cs l) (answers_neither cs [])
