-- 02, Item 14, with demand 3: for a sound table and a book reached from a zeroed area by Item 7's calls with it, any settings and rooms, nothing is
-- listed for the same table (`nothing-listed`, in proofs/SameTableLaws).
use Rattle.std.specs.Prelude.{ℕ, suc, ◌≤◌, Bool, length, ltb}
use Rattle.std.proofs.Common.{arith, sym, ◌∙◌}
use Rattle.std.proofs.Math.Path.{◌≡◌, refl}
use Rattle.std.proofs.Math.Bool.{true, false, not, cond}
use mathlib.Core.List.Memᴰ
use mathlib.Core.List.{List, [], ◌∷◌, ◌++◌, Memᴰ}
use Rattle.std.proofs.Math.Option.{Option, none, some}
use Rattle.lists.specs.Lists.{keep, on_some, same_list}
use Rattle.lists.specs.Laws.{Every, every_of_all, same-list}
use Rattle.lists.specs.Filled.{take-filled}
use Rattle.limits.specs.Limits.{least_work}
use Rattle.answers.specs.Verdict.{Verdict, accepted, refused}
use Rattle.ending.specs.Numbers.{next_accepted}
use Rattle.soundness.specs.Soundness.{soundness_of}
use Rattle.name.specs.Label.{Label}
use Rattle.name.specs.Name.{name_answer, name_before15, name_verdict, name_result, name_call}
use Rattle.idempotence.specs.Idempotence.{again}
use Rattle.meaning.specs.Restricted.{accepted_off}
use Rattle.book_slots.specs.Book.{front_size, Slot, is_free, name_of}
use Rattle.book_answers.specs.Calls.{no_account, form_of, fileable}
use Rattle.book_map.specs.Map.{Entry, Changed, lookup, without, leading, Job, save, find, forget, Call, map_job, map_save, map_find, map_forget, map_result, book_call}
use Rattle.book_map.specs.SlotEntries.{entries_of}
use Rattle.book_laws.specs.MapTheorem.{Holds, EightWords, zeroed}
use Rattle.refiled.specs.Refiled.{form_by, changed}
use Rattle.refiling.proofs.Joins.{same_self}
use Rattle.moved_list.specs.Moved.{slot_change, moved_from}

module _ (words : List ℕ) (sound : soundness_of words ≡ none) where
  -- a form that the table files as it is, with any work area that is large enough
  unfoldable pub Settled : List ℕ → Type 0
  unfolding changed
  Settled form = (work : ℕ) → least_work ≤ work → changed words work form ≡ none

  -- the form of an accepted name is settled
  module _ (setting : ℕ) (name : List ℕ) (room work : ℕ) where
    pub in_front : (ls : List Label) → name_verdict setting words name room work ≡ accepted ls → form_of (name_call setting words name room work) ≡ accepted (name_answer ls)
    unfolding name_call name_result
    in_front ls e = rw (e, take-filled room (name_answer ls))

    before_15 : (form : List ℕ) (ls : List Label) (room' work' : ℕ) → name_verdict 0 words form room' work' ≡ accepted ls → name_before15 0 words form work' ≡ accepted ls
    unfolding name_verdict
    before_15 form ls room' work' e =
        let a = next_accepted (name_before15 0 words form work') _ ls e in
        a.1 ∙ go a.0 (ltb room' (length (name_answer a.0))) a.2
      where
        go : (xs : List Label) (b : Bool) → cond b (refused 15 0) (accepted xs) ≡ accepted ls → accepted xs ≡ accepted ls
        go xs true f = absurd (let z : ◌≡◌ {A = ℕ} 0 1 = cc in omega arith)
        go xs false f = f

    pub answer-settled : (ls : List Label) → name_verdict setting words name room work ≡ accepted ls → fileable (name_answer ls) ≡ accepted (name_answer ls)
        → Settled (name_answer ls)
    unfolding Settled changed form_by
    answer-settled ls e f work' enough =
        let off : name_verdict 0 words name room work ≡ accepted ls = accepted_off setting words name room work ls e in
        let second = again 0 words name ls room work (length (name_answer ls)) work' sound off (record { for_answer = omega arith; for_work = enough }) in
        rw (before_15 (name_answer ls) ls (length (name_answer ls)) work' second.accepts, f, same_self (name_answer ls))

    -- what can be filed is filed as it is
    pub fileable_is : (f form : List ℕ) → fileable f ≡ accepted form → f ≡ form
    fileable_is [] form e = absurd (let z : ◌≡◌ {A = ℕ} 0 1 = cc in omega arith)
    fileable_is (c ∷ f) form e = go (ltb 255 (length (c ∷ f))) e
      where
        go : (b : Bool) → cond b (refused 43 0) (accepted (c ∷ f)) ≡ accepted form → c ∷ f ≡ form
        go true k = absurd (let z : ◌≡◌ {A = ℕ} 0 1 = cc in omega arith)
        go false k = cc

  -- every form of the map is settled
  unfoldable pub AllSettled : List Entry → Type 0
  AllSettled m = Every (λ e. Settled e.form) m

  without-settled : (form : List ℕ) (m : List Entry) → AllSettled m → AllSettled (without form m)
  unfolding AllSettled without
  without-settled form [] h = tt
  without-settled form (e ∷ m) h = go (not (same_list e.form form)) (without-settled form m h.1)
    where
      go : (b : Bool) → Every (λ x. Settled x.form) (keep (λ x. not (same_list x.form form)) m)
          → Every (λ x. Settled x.form) (cond b (e ∷ keep (λ x. not (same_list x.form form)) m) (keep (λ x. not (same_list x.form form)) m))
      go true k = (h.0, k)
      go false k = k

  -- what a verdict leaves of the map
  pub left_settled : (m : List Entry) → AllSettled m → (v : Verdict Changed) → ((c : Changed) → v ≡ accepted c → AllSettled c.map) → AllSettled (map_result m v).map
  left_settled m h (accepted c) f = f c refl
  left_settled m h (refused n p) f = h

  pub job_settled : (form : List ℕ) → Settled form → (m : List Entry) → AllSettled m → (j : Job) (c : Changed) → map_job j form m ≡ accepted c → AllSettled c.map
  unfolding AllSettled map_save map_find map_forget leading
  job_settled form s m h (save account) c e = go (lookup form m) e
    where
      last : (b : Bool)
          → cond b (accepted (record { map = record { form = form; account = account } ∷ without form m; account = no_account })) (refused 45 0) ≡ accepted c
          → AllSettled c.map
      last true f = let z : record { map = record { form = form; account = account } ∷ without form m; account = no_account } ≡ c = cc in rw (← z) (s, without-settled form m h)
      last false f = absurd (let z : ◌≡◌ {A = ℕ} 0 1 = cc in omega arith)

      go : (o : Option (List ℕ))
          → on_some o (λ old. accepted (record { map = record { form = form; account = account } ∷ without form m; account = no_account }))
          (cond (ltb (length m) 64) (accepted (record { map = record { form = form; account = account } ∷ without form m; account = no_account })) (refused 45 0))
          ≡ accepted c → AllSettled c.map
      go (some x) f = last true f
      go none f = last (ltb (length m) 64) f
  job_settled form s m h find c e = go (lookup form m) e
    where
      go : (o : Option (List ℕ)) → on_some o (λ found. accepted (record { map = m; account = found })) (refused 44 0) ≡ accepted c → AllSettled c.map
      go (some x) f = let z : record { map = m; account = x } ≡ c = cc in rw (← z) h
      go none f = absurd (let z : ◌≡◌ {A = ℕ} 0 1 = cc in omega arith)
  job_settled form s m h forget c e = go (lookup form m) e
    where
      go : (o : Option (List ℕ)) → on_some o (λ old. accepted (record { map = without form m; account = no_account })) (refused 44 0) ≡ accepted c → AllSettled c.map
      go (some x) f = let z : record { map = without form m; account = no_account } ≡ c = cc in rw (← z) (without-settled form m h)
      go none f = absurd (let z : ◌≡◌ {A = ℕ} 0 1 = cc in omega arith)

  -- a book reached from a zeroed area by calls with this table, each with a setting and with buffers of its own
  pub data Reached : List ℕ → Type 0 where
    empty : (front : List ℕ) → length front ≡ front_size → Reached (zeroed front)
    called : (setting : ℕ) (c : Call) → EightWords c → (area : List ℕ) → Reached area → Reached (book_call setting words c area).area

  pub record Kept (area : List ℕ) : Type 0 where
    pub map : List Entry
    pub holds : Holds area map
    pub settled : AllSettled map

  -- a filed slot's form is one of the map's
  found-settled : (m : List Entry) → AllSettled m → (form account : List ℕ) → lookup form m ≡ some account → Settled form
  unfolding AllSettled lookup
  found-settled [] h form account e = absurd (let z : ◌≡◌ {A = ℕ} 0 1 = cc in omega arith)
  found-settled (x ∷ m) h form account e = go (same_list x.form form) refl (found-settled m h.1 form account) e
    where
      go : (b : Bool) → same_list x.form form ≡ b → (lookup form m ≡ some account → Settled form) → cond b (some x.account) (lookup form m) ≡ some account
          → Settled form
      go true q f k = rw (← same-list x.form form q) h.0
      go false q f k = f k

  -- slots whose forms are settled stay
  pub slots_stay : (work : ℕ) → least_work ≤ work → (i : ℕ) (slots : List Slot) → Every (λ e. Settled e.form) (entries_of slots) → moved_from words work i slots ≡ []
  unfolding moved_from slot_change Settled
  slots_stay work enough i [] h = refl
  slots_stay work enough i (s ∷ slots) h = go (is_free s) refl h (slots_stay work enough (suc i) slots)
    where
      go : (b : Bool) → is_free s ≡ b
          → Every (λ e. Settled e.form) (cond b [] (record { form = name_of s; account = s.account } ∷ []) ++ entries_of slots)
          → (Every (λ e. Settled e.form) (entries_of slots) → moved_from words work (suc i) slots ≡ [])
          → on_some (cond b none (changed words work (name_of s))) (λ n. record { slot = i; refusal = n } ∷ moved_from words work (suc i) slots) (moved_from words work (suc i) slots) ≡ []
      go true q k f = f k
      go false q k f = rw (k.0 work enough) (f k.1)

  -- each entry of a list is found in it by its form
  there : (e : Entry) (es : List Entry) → Memᴰ e es → (account : List ℕ) × (lookup e.form es ≡ some account)
  unfolding lookup
  there e [] m = absurd (Memᴰ.not-nil m)
  there e (x ∷ es) (Memᴰ.head q) =
      let same : same_list x.form e.form ≡ true = rw (← q) (same_self e.form) in
      (x.account, rw same refl)
  there e (x ∷ es) (Memᴰ.tail m) = go (same_list x.form e.form) (there e es m)
    where
      go : (b : Bool) → (account : List ℕ) × (lookup e.form es ≡ some account)
          → (account : List ℕ) × (cond b (some x.account) (lookup e.form es) ≡ some account)
      go true r = (x.account, refl)
      go false r = r

  pub entries_settled : (es m : List Entry) → ((k : List ℕ) → lookup k es ≡ lookup k m) → AllSettled m → Every (λ e. Settled e.form) es
  entries_settled es m leads h =
      every_of_all (λ e. Settled e.form) es
      (λ e k. let r = there e es k in found-settled m h e.form r.0 (sym (leads e.form) ∙ r.1))
