-- The reset, from the two buffers that it cleared.
use Prim.Native.Nat.{ℕ, ◌-◌, ◌*◌}
use native.Mathlib.Omega.{arith}
use mathlib.Core.Path.{◌≡◌, refl, ap, ◌∙◌}
use mathlib.Core.List.{List, ◌++◌}
use lib.ListN.{length, take, replicate}
use borrow.Author.Tests.{eq-eqb, ne_eqb}
use borrow.Rule.Slice.PartMut.{mid_of, put_mid}
use Rattle.lists.specs.Lists.{joined_map}
use Rattle.buffers.proofs.Parts.{length-tail, put_tail}
use Rattle.book_slots.specs.Book.{front_size, slot_count, slot_size, area_size, in_slot, empty_slot}
use Rattle.book_slots.specs.SlotLaws.{zeros-slots}
use Rattle.std.specs.Prelude.{Ok, Err}
use Rattle.book_answers.specs.declared.AreaError.TheVariants.{OtherSize}
use Rattle.book_answers.specs.declared.BookError.TheVariants.{Area}
use Rattle.book_answers.specs.Calls.{book_result, reset_call}
use Rattle.book_answers.specs.Promise.{ResetCalls}

-- reset
module _ (area answer answer' work work' : List ℕ) (a : answer' ≡ replicate (length answer) 0) (w : work' ≡ replicate (length work) 0) where
  pub reset_other : (length area ≡ area_size → ⊥) → ResetCalls area area answer answer' work work' (Err (Area OtherSize))
  unfolding reset_call book_result
  reset_other h = rw (ne_eqb (length area) area_size h) (record { values = refl; area = refl; answer = a; work = w })

  pub reset_done : length area ≡ area_size → (after : List ℕ) → after ≡ replicate (length (mid_of front_size (length area - front_size) area)) 0
      → ResetCalls area (put_mid front_size (length area - front_size) area after) answer answer' work work' (Ok tt)
  unfolding reset_call book_result
  reset_done h after e =
      let long : length (mid_of front_size (length area - front_size) area) ≡ slot_size * slot_count =
      length-tail front_size area ∙ omega (arith, h) in
      let slots : after ≡ joined_map in_slot (replicate slot_count empty_slot) = e ∙ rw long (zeros-slots slot_count) in
      rw (eq-eqb (length area) area_size h)
      (record {
        values = refl;
        area = put_tail front_size area after ∙ ap (λ (x : List ℕ). take front_size area ++ x) slots;
        answer = a;
        work = w;
      })
