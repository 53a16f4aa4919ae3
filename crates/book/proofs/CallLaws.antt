-- The calls, from the form that stands in the answer buffer and what was done in the slots.
use Prim.Native.Nat.{ℕ, ◌-◌, ◌*◌, ◌≤◌}
use native.Mathlib.Omega.{arith}
use mathlib.Core.Path.{◌≡◌, refl, sym, ap, ◌∙◌}
use mathlib.Core.List.{List, ◌++◌}
use lib.ListN.{length, take, drop, replicate, take-append-drop}
use lib.Seq.{length-take-le}
use borrow.Rule.Slice.PartMut.{mid_of, put_mid}
use Rattle.buffers.proofs.Parts.{mid_tail, length-tail, put_tail}
use Rattle.answers.specs.Verdict.{Verdict, accepted, refused, next}
use Rattle.book_slots.specs.Book.{front_size, slot_count, slot_size, form_room, area_size, Slot, slots_of, slots_in}
use Rattle.std.specs.Prelude.{Result, Ok, Err}
use Rattle.book_answers.specs.declared.BookError.{BookError}
use Rattle.book_answers.specs.Calls.{BookValues, Kept, book_number, book_place, area_after, book_result, opened, form_for, by_form}
use Rattle.book_answers.specs.Promise.{book_values, Leaves}
use Rattle.book_forms.specs.Forms.{Stands, FilingIs, Files}
use Rattle.book_jobs.specs.Works.{slots_after, Works}
use Rattle.book.specs.Steps.{Judged}
use Rattle.book_forms.proofs.OpenLaws.{right_size}

-- a refusal before the form is the call's
next_refused : {A B C : Type 0} (o : Verdict A) (v : Verdict B) (g : A → B → Verdict C) (n p : ℕ) → next o (λ a. v) ≡ refused n p
    → next o (λ a. next v (g a)) ≡ refused n p
next_refused (accepted a) (accepted b) g n p e = absurd (let z : ◌≡◌ {A = ℕ} 0 1 = cc in omega arith)
next_refused (accepted a) (refused m q) g n p e = cc
next_refused (refused m q) v g n p e = cc

-- the form stands in the answer buffer, and the area is whole
module _ (area : List ℕ) (v : Verdict (List ℕ)) (answer answer' work work' : List ℕ) (r : Result ℕ BookError) (f : Files area v answer answer' work work' r)
    (n : ℕ) (e : r ≡ Ok n) where
  stands : (opened area ≡ accepted (slots_in area)) × Stands v answer' n
  stands = rw e at f.is

  pub form_room_lem : n ≤ length answer'
  form_room_lem = stands.1.fits

  pub form_long : length (take n answer') ≡ n
  form_long = length-take-le n answer' form_room_lem

  pub whole_area : length area ≡ area_size
  whole_area = right_size area (slots_in area) stands.0

  -- what the job asks
  pub job_asks : (length (mid_of front_size (length area - front_size) area) ≡ slot_size * slot_count) × (length (take n answer') ≤ form_room)
  job_asks = (rw (length-tail front_size area) (omega (arith, whole_area)), rw form_long stands.1.short)

module _ (job : List ℕ → List Slot → Verdict Kept) (setting : ℕ) (words name area answer answer' work work' : List ℕ) (r : Result ℕ BookError)
    (f : Files area (form_for setting words name (length answer) (length work)) answer answer' work work' r) where
  -- the verdict of the call
  abbrev pub due : Verdict Kept
  due = by_form job setting words name area (length answer) (length work)

  pub judged_refused : {A : Type 0} (account : A → List ℕ) (x : BookError) → r ≡ Err x
      → Judged due area area answer answer' work work' (book_values account (Err x))
  unfolding by_form
  judged_refused account x e =
      let h : FilingIs area (form_for setting words name (length answer) (length work)) answer' (Err x) = rw e at f.is in
      let v : due ≡ refused (book_number x) (book_place x) =
      next_refused (opened area) (form_for setting words name (length answer) (length work)) (λ slots form. job form slots) (book_number x)
      (book_place x) h in
      record { values = rw v refl; area = rw v refl; same = f.same; same-work = f.same-work }

  module _ (n : ℕ) (e : r ≡ Ok n) where
    standing : (opened area ≡ accepted (slots_in area)) × Stands (form_for setting words name (length answer) (length work)) answer' n
    standing = stands area (form_for setting words name (length answer) (length work)) answer answer' work work' r f n e

    due_is : due ≡ job (take n answer') (slots_in area)
    unfolding by_form
    due_is = rw (standing.0, standing.1.form)

    module _ (after : List ℕ) (values : BookValues)
        (w : Works (job (take n answer') (slots_of slot_count (mid_of front_size (length area - front_size) area)))
        (mid_of front_size (length area - front_size) area) after values) where
      -- the same of the slots of the area
      works : Works due (drop front_size area) after values
      works = rw (due_is) (rw (mid_tail front_size area) at w)

      whole : (v : Verdict Kept) (s : List ℕ) → s ≡ slots_after (drop front_size area) v → take front_size area ++ s ≡ area_after area v
      whole (accepted k) s g = ap (λ (x : List ℕ). take front_size area ++ x) g
      whole (refused m p) s g = ap (λ (x : List ℕ). take front_size area ++ x) g ∙ take-append-drop front_size area

      pub judged_form : Judged due area (put_mid front_size (length area - front_size) area after) answer answer' work work' values
      judged_form =
          record {
            values = works.values;
            area = put_tail front_size area after ∙ whole due after works.slots;
            same = f.same;
            same-work = f.same-work;
          }

      -- where the slots are only read
      pub judged-read : after ≡ mid_of front_size (length area - front_size) area → Judged due area area answer answer' work work' values
      judged-read g =
          record {
            values = works.values;
            area =
                sym (take-append-drop front_size area) ∙ ap (λ (x : List ℕ). take front_size area ++ x) (sym (g ∙ mid_tail front_size area))
                ∙ whole due after works.slots;
            same = f.same;
            same-work = f.same-work;
          }

-- both buffers are cleared
pub leaves : (v : Verdict Kept) (area area' answer answer' answer'' work work' work'' : List ℕ) (values : BookValues)
    → Judged v area area' answer answer' work work' values → answer'' ≡ replicate (length answer') 0 → work'' ≡ replicate (length work') 0
    → Leaves (book_result area (length answer) (length work) v) values area' answer'' work''
unfolding book_result
leaves v area area' answer answer' answer'' work work' work'' values j a w =
    record {
      values = j.values;
      area = j.area;
      answer = a ∙ ap (λ (n : ℕ). replicate n 0) j.same;
      work = w ∙ ap (λ (n : ℕ). replicate n 0) j.same-work;
    }
