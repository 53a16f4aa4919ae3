-- "after a reset all but the front words are zero. No call changes a front word." For every area, whatever it holds.
use Rattle.std.specs.Prelude.{ℕ, ◌*◌, ◌≡◌, Bool, true, false, cond, length, replicate, eqb}
use Rattle.std.proofs.Common.{arith, sym, ◌∙◌, eq-eqb, eqb-true}
use Rattle.std.proofs.Math.Path.{refl, ap}
use mathlib.Core.List.{List, [], ◌∷◌, ◌++◌}
use Rattle.std.proofs.Math.ListN.{take}
use Rattle.answers.specs.Verdict.{Verdict, accepted, refused, next}
use Rattle.book_slots.specs.Book.{front_size, slot_count, slot_size, area_size, Slot, slots_in}
use Rattle.book_slots.specs.SlotLaws.{zeros-slots}
use Rattle.book_answers.specs.Calls.{BookResult, Kept, area_after, book_result, sized, opened, by_form, reset_call}
use Rattle.book_forms.proofs.OpenLaws.{right_size}
use Rattle.book_map.specs.Map.{Call, by, reset, book_call, area_left}
use Rattle.book_map.specs.Jobs.{book_job}
use Rattle.book_laws.specs.MapTheorem.{with_front, job_result}

-- a call that is not refused had an area of the right size
after_front : (area : List ℕ) (v : Verdict Kept) → ((k : Kept) → v ≡ accepted k → length area ≡ area_size)
    → take front_size (area_after area v) ≡ take front_size area
after_front area (accepted k) h = with_front area (h k refl) k.slots
after_front area (refused n p) h = refl

next-first : {A B : Type 0} (o : Verdict A) (f : A → Verdict B) (b : B) → next o f ≡ accepted b → (a : A) × (o ≡ accepted a)
next-first (accepted a) f b e = (a, refl)
next-first (refused n p) f b e = absurd (let w : ◌≡◌ {A = ℕ} 0 1 = cc in omega arith)

sized_right : (area : List ℕ) (slots : List Slot) → sized area ≡ accepted slots → length area ≡ area_size
sized_right area slots e = go (eqb (length area) area_size) refl e
  where
    go : (b : Bool) → eqb (length area) area_size ≡ b → cond b (accepted (slots_in area)) (refused 40 0) ≡ accepted slots → length area ≡ area_size
    go true q f = eqb-true (length area) area_size q
    go false q f = absurd (let w : ◌≡◌ {A = ℕ} 0 1 = cc in omega arith)

module _ (setting : ℕ) (words : List ℕ) where
  pub front_kept : (c : Call) (area : List ℕ) → take front_size (book_call setting words c area).area ≡ take front_size area
  unfolding book_call book_result by_form reset_call
  front_kept (by j name room work) area =
      ap (λ (r : BookResult). take front_size r.area) (job_result setting words area j name room work)
      ∙ after_front area (by_form (book_job j) setting words name area room work)
      (λ k e. let s = next-first (opened area) _ k e in right_size area s.0 s.1)
  front_kept (reset room work) area =
      after_front area (next (sized area) _) (λ k e. let s = next-first (sized area) _ k e in sized_right area s.0 s.1)

  -- over a sequence of calls
  pub front_left : (cs : List Call) (area : List ℕ) → take front_size (area_left setting words area cs) ≡ take front_size area
  unfolding area_left
  front_left [] area = refl
  front_left (c ∷ cs) area = front_left cs (book_call setting words c area).area ∙ front_kept c area

-- after a reset
pub reset_zeros : (area : List ℕ) (room work : ℕ) → length area ≡ area_size
    → (reset_call area room work).area ≡ take front_size area ++ replicate (slot_size * slot_count) 0
unfolding reset_call book_result
reset_zeros area room work h =
    rw (eq-eqb (length area) area_size h) (ap (λ (s : List ℕ). take front_size area ++ s) (sym (zeros-slots slot_count)))
