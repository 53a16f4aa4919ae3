-- 40 and 41 of an area.
use Prim.Native.Nat.{ℕ, ◌-◌, ◌/◌}
use native.Mathlib.Omega.{arith}
use mathlib.Core.Path.{◌≡◌, refl, sym, ap, ◌∙◌}
use mathlib.Core.Bool.{Bool, true, false, cond}
use mathlib.Core.List.{List, map}
use lib.ListN.{length, take, drop, length-drop}
use lib.Dec.{eqb}
use borrow.Author.Tests.{eq-eqb, ne_eqb, eqb-true}
use Rattle.buffers.proofs.Parts.{mid_tail}
use Rattle.answers.specs.Verdict.{accepted, refused, next}
use Rattle.book_slots.specs.Book.{front_size, slot_count, slot_size, area_size, Slot, slot_of, slots_of, slots_in}
use Rattle.book_slots.specs.Damage.{damaged}
use Rattle.book_answers.specs.Calls.{opened}

module _ (area : List ℕ) where
  pub other_size : (length area ≡ area_size → ⊥) → opened area ≡ refused 40 0
  unfolding opened
  other_size h = rw (ne_eqb (length area) area_size h)

  module _ (h : length area ≡ area_size) (slots : List (List ℕ))
      (l : map slot_of slots
      ≡ slots_of (length (take (length area - front_size) (drop front_size area)) / slot_size) (take (length area - front_size) (drop front_size area))) where
    -- the slots as they are lent
    pub lent_slots : map slot_of slots ≡ slots_in area
    lent_slots =
        let n : length (drop front_size area) / slot_size ≡ slot_count = rw (length-drop front_size area, h) refl in
        l ∙ rw (mid_tail front_size area, n)

    module _ (r : Bool) (e : r ≡ damaged (map slot_of slots)) where
      found : damaged (slots_in area) ≡ r
      found = ap damaged (sym lent_slots) ∙ sym e

      pub is_damaged : r ≡ true → opened area ≡ refused 41 0
      unfolding opened
      is_damaged f = rw (eq-eqb (length area) area_size h, found, f)

      pub is_whole : r ≡ false → (opened area ≡ accepted (slots_in area)) × (map slot_of slots ≡ slots_in area)
      unfolding opened
      is_whole f = (rw (eq-eqb (length area) area_size h, found, f), lent_slots)

  -- an area that is opened has the right size
  pub right_size : (slots : List Slot) → opened area ≡ accepted slots → length area ≡ area_size
  unfolding opened
  right_size slots e = go (eqb (length area) area_size) refl e
    where
      go : (b : Bool) → eqb (length area) area_size ≡ b
          → next (cond b (accepted (slots_in area)) (refused 40 0)) (λ s. cond (damaged s) (refused 41 0) (accepted s)) ≡ accepted slots
          → length area ≡ area_size
      go true f g = eqb-true (length area) area_size f
      go false f g = absurd (let z : ◌≡◌ {A = ℕ} 0 1 = cc in omega arith)
