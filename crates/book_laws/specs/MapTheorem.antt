-- "From a zeroed area, with one table throughout, any sequence of these calls answers as a plain map of at most 64 entries from normal forms to
-- accounts does, and after a reset all but the front words are zero. No call changes a front word."
use Rattle.std.specs.Prelude.{ℕ, ◌+◌, ◌-◌, ◌*◌, ◌≤◌, ◌≡◌, refl, Bool, true, false, cond, List, [], ◌∷◌, ◌++◌, length, take, drop, ltb}
use Rattle.std.proofs.Common.{arith, sym, ◌∙◌, length-append, length-take-le, take_at, drop_at, eq-eqb, ltb-false}
use Rattle.std.proofs.Math.Path.{ap}
use Rattle.std.proofs.Math.ListN.{replicate}
use Rattle.std.proofs.lemmas.List.{length-replicate}
use Rattle.lists.specs.Lists.{any, joined_map}
use Rattle.lists.specs.Laws.{Every, every_imp}
use Rattle.answers.specs.Verdict.{Verdict, accepted, refused, next}
use Rattle.name.specs.Name.{name_call}
use Rattle.book_slots.specs.Book.{front_size, slot_count, slot_size, form_room, area_size, Slot, in_slot, slots_of, slots_in, with_slots, empty_slot}
use Rattle.book_slots.specs.Damage.{slot_damaged, damaged}
use Rattle.book_slots.specs.SlotLaws.{Regular, slot_long, words-slots, zeros-slots}
use Rattle.book_answers.specs.Calls.{BookResult, Kept, no_account, book_result, opened, form_of, fileable, form_for, by_form, save_call, find_call, forget_call, reset_call}
use Rattle.book_map.specs.Map.{Entry, Changed, Job, save, find, forget, Call, by, reset, map_job, map_result, map_call, book_call, map_answers, book_answers}
use Rattle.book_map.specs.Entries.{Distinct}
use Rattle.book_map.specs.SameMap.{Same}
use Rattle.book_map.specs.SlotEntries.{Good, distinct-once, empty_entries, empty_goods}
use Rattle.book_map.specs.Jobs.{Slots, Agree, book_job, Eight}
use Rattle.book_map.proofs.JobLaws.{agree_job}

-- the area has the right size, and its slots hold the map
pub record Holds (area : List ℕ) (m : List Entry) : Type 0 where
  pub size : length area ≡ area_size
  pub slots : Slots (slots_in area) m

-- 40 and 41 do not apply to it
none-damaged : (slots : List Slot) → Every Good slots → any slot_damaged slots ≡ false
none-damaged [] g = refl
none-damaged (s ∷ slots) g = rw (g.0.fine, none-damaged slots g.1)

pub holds_opened : (area : List ℕ) (m : List Entry) → Holds area m → opened area ≡ accepted (slots_in area)
unfolding opened damaged
holds_opened area m h =
    rw (eq-eqb (length area) area_size h.size, none-damaged (slots_in area) h.slots.good, distinct-once (slots_in area) h.slots.good h.slots.same.apart)

regular_slots : (slots : List Slot) → Every Good slots → Every Regular slots
regular_slots slots g = every_imp {P = Good} {Q = Regular} slots (λ x k. k.regular) g

-- the area with other slots
words_long : (slots : List Slot) → Every Regular slots → length (joined_map in_slot slots) ≡ slot_size * length slots
words_long [] r = refl
words_long (s ∷ slots) r = rw (length-append (in_slot s) (joined_map in_slot slots), slot_long s r.0, words_long slots r.1) (omega arith)

module _ (area : List ℕ) (h : length area ≡ area_size) where
  front_long : length (take front_size area) ≡ front_size
  front_long = length-take-le front_size area (omega arith)

  pub with_front : (slots : List Slot) → take front_size (with_slots area slots) ≡ take front_size area
  with_front slots = take_at (take front_size area) (joined_map in_slot slots) front_size front_long

  pub with_holds : (slots : List Slot) (m : List Entry) → Slots slots m → Holds (with_slots area slots) m
  with_holds slots m s =
      let regular : Every Regular slots = regular_slots slots s.good in
      let long : length (joined_map in_slot slots) ≡ slot_size * slot_count = words_long slots regular ∙ rw s.all in
      let back : slots_in (with_slots area slots) ≡ slots =
      ap (slots_of slot_count) (drop_at (take front_size area) (joined_map in_slot slots) front_size front_long)
      ∙ ap (λ (n : ℕ). slots_of n (joined_map in_slot slots)) (sym s.all) ∙ words-slots slots regular in
      record { size = rw (length-append (take front_size area) (joined_map in_slot slots), front_long, long); slots = rw back s }

-- a form that can be filed has from 1 to 255 codepoints
fileable_bounds : (form f : List ℕ) → fileable form ≡ accepted f → (1 ≤ length f) × (length f ≤ form_room)
fileable_bounds [] f e = absurd (let w : ◌≡◌ {A = ℕ} 0 1 = cc in omega arith)
fileable_bounds (c ∷ form) f e = go (ltb form_room (length (c ∷ form))) refl e
  where
    go : (b : Bool) → ltb form_room (length (c ∷ form)) ≡ b → cond b (refused 43 0) (accepted (c ∷ form)) ≡ accepted f
        → (1 ≤ length f) × (length f ≤ form_room)
    go true q k = absurd (let w : ◌≡◌ {A = ℕ} 0 1 = cc in omega arith)
    go false q k =
        let z : c ∷ form ≡ f = cc in
        rw (← z) (omega arith, ltb-false form_room (length (c ∷ form)) q)

pub form_bounds : (setting : ℕ) (words name : List ℕ) (room work : ℕ) (f : List ℕ) → form_for setting words name room work ≡ accepted f
    → (1 ≤ length f) × (length f ≤ form_room)
unfolding form_for
form_bounds setting words name room work f e = go (form_of (name_call setting words name room work)) e
  where
    go : (v : Verdict (List ℕ)) → next v fileable ≡ accepted f → (1 ≤ length f) × (length f ≤ form_room)
    go (accepted form) k = fileable_bounds form f k
    go (refused n p) k = absurd (let w : ◌≡◌ {A = ℕ} 0 1 = cc in omega arith)

-- free slots are the empty map
empty_same : Same [] []
unfolding Distinct
empty_same = record { leads = λ k. refl; count = refl; apart = tt; distinct = tt }

empty_slots : Slots (replicate slot_count empty_slot) []
empty_slots =
    record {
      all = length-replicate slot_count empty_slot;
      good = empty_goods slot_count;
      same = rw (empty_entries slot_count) empty_same;
    }

-- what a call answers, what it leaves in the area and what in the map
pub record Step (setting : ℕ) (words : List ℕ) (c : Call) (area : List ℕ) (m : List Entry) : Type 0 where
  pub values : (book_call setting words c area).values ≡ (map_call setting words c m).values
  pub holds : Holds (book_call setting words c area).area (map_call setting words c m).map

-- from verdicts that agree
from_agree : (area : List ℕ) (m : List Entry) → Holds area m → (room work : ℕ) (v : Verdict Kept) (w : Verdict Changed) → Agree v w
    → ((book_result area room work v).values ≡ (map_result m w).values) × Holds (book_result area room work v).area (map_result m w).map
unfolding book_result
from_agree area m h room work (accepted k) (accepted c) a =
    (ap (λ (x : List ℕ). record { number = 0; place = 0; account = x }) a.0, with_holds area h.size k.slots c.map a.1)
from_agree area m h room work (accepted k) (refused n p) a = absurd a
from_agree area m h room work (refused n p) (accepted c) a = absurd a
from_agree area m h room work (refused n p) (refused q r) a = (rw (a.0, a.1), h)

-- a call that takes a name, by its job
pub job_result : (setting : ℕ) (words area : List ℕ) (j : Job) (name : List ℕ) (room work : ℕ)
    → book_call setting words (by j name room work) area ≡ book_result area room work (by_form (book_job j) setting words name area room work)
unfolding book_call save_call find_call forget_call
job_result setting words area (save account) name room work = refl
job_result setting words area find name room work = refl
job_result setting words area forget name room work = refl

module _ (setting : ℕ) (words : List ℕ) (area : List ℕ) (m : List Entry) (h : Holds area m) where
  agree_call : (j : Job) → Eight j → (name : List ℕ) (room work : ℕ)
      → Agree (by_form (book_job j) setting words name area room work) (next (form_for setting words name room work) (λ form. map_job j form m))
  unfolding by_form
  agree_call j l name room work = rw (holds_opened area m h) (go (form_for setting words name room work) refl)
    where
      go : (v : Verdict (List ℕ)) → form_for setting words name room work ≡ v
          → Agree (next v (λ form. book_job j form (slots_in area))) (next v (λ form. map_job j form m))
      go (accepted f) e =
          let b = form_bounds setting words name room work f e in
          agree_job f b.0 b.1 (slots_in area) m h.slots j l
      go (refused n p) e = (refl, refl)

  step_by : (j : Job) → Eight j → (name : List ℕ) (room work : ℕ) → Step setting words (by j name room work) area m
  unfolding map_call
  step_by j l name room work =
      let r = from_agree area m h room work (by_form (book_job j) setting words name area room work)
      (next (form_for setting words name room work) (λ form. map_job j form m)) (agree_call j l name room work) in
      let q = job_result setting words area j name room work in
      record {
        values = ap (λ (x : BookResult). x.values) q ∙ r.0;
        holds = rw (ap (λ (x : BookResult). x.area) q) r.1;
      }

  -- reset empties both
  step_reset : (room work : ℕ) → Step setting words (reset room work) area m
  unfolding book_call reset_call map_call
  step_reset room work =
      let kept : Verdict Kept = accepted (record { slots = replicate slot_count empty_slot; account = no_account }) in
      let q : book_call setting words (reset room work) area ≡ book_result area room work kept = rw (eq-eqb (length area) area_size h.size) in
      let r = from_agree area m h room work kept (accepted (record { map = []; account = no_account })) (refl, empty_slots) in
      record {
        values = ap (λ (x : BookResult). x.values) q ∙ r.0;
        holds = rw (ap (λ (x : BookResult). x.area) q) r.1;
      }

-- every account that is saved has 8 words, as those of the calls do
abbrev pub EightWords : Call → Type 0
EightWords (by j name room work) = Eight j
EightWords (reset room work) = Unit {0}

pub step : (setting : ℕ) (words : List ℕ) (c : Call) → EightWords c → (area : List ℕ) (m : List Entry) → Holds area m
    → Step setting words c area m
step setting words (by j name room work) l area m h = step_by setting words area m h j l name room work
step setting words (reset room work) l area m h = step_reset setting words area m h room work

-- By induction over the sequence: from an area that holds a map, the book answers as that map does.
pub answers_same : (setting : ℕ) (words : List ℕ) (cs : List Call) → Every EightWords cs → (area : List ℕ) (m : List Entry) → Holds area m
    → book_answers setting words area cs ≡ map_answers setting words m cs
unfolding book_answers map_answers
answers_same setting words [] l area m h = refl
answers_same setting words (c ∷ cs) l area m h =
    let s = step setting words c l.0 area m h in
    rw (s.values, answers_same setting words cs l.1 _ _ s.holds)

-- an area with these front words whose slots are all zero
abbrev pub zeroed : List ℕ → List ℕ
zeroed front = front ++ replicate (slot_size * slot_count) 0

pub zeroed-holds : (front : List ℕ) → length front ≡ front_size → Holds (zeroed front) []
zeroed-holds front h =
    let words : drop front_size (zeroed front) ≡ joined_map in_slot (replicate slot_count empty_slot) =
    drop_at front (replicate (slot_size * slot_count) 0) front_size h ∙ zeros-slots slot_count in
    let slots : slots_in (zeroed front) ≡ replicate slot_count empty_slot =
    ap (slots_of slot_count) words ∙ ap (λ (n : ℕ). slots_of n (joined_map in_slot (replicate slot_count empty_slot))) (sym (length-replicate slot_count empty_slot))
    ∙ words-slots (replicate slot_count empty_slot) (regular_slots (replicate slot_count empty_slot) (empty_goods slot_count)) in
    record {
      size = rw (length-append front (replicate (slot_size * slot_count) 0), h);
      slots = rw slots empty_slots;
    }

-- The map theorem: any table, any setting, any sequence of calls, from any 16 front words and slots that are all zero.
pub map_theorem : (setting : ℕ) (words : List ℕ) (front : List ℕ) → length front ≡ front_size → (cs : List Call) → Every EightWords cs
    → book_answers setting words (zeroed front) cs ≡ map_answers setting words [] cs
map_theorem setting words front h cs l = answers_same setting words cs l (zeroed front) [] (zeroed-holds front h)
