-- Whether a slot has a name, by its length and its words.
use Prim.Native.Nat.{ℕ, ◌+◌, ◌-◌, ◌≤◌}
use native.Mathlib.Omega.{arith}
use mathlib.Core.Path.{◌≡◌, sym, ap, ◌∙◌}
use mathlib.Core.Bool.{Bool, false}
use mathlib.Core.List.{List}
use lib.ListN.{length, get_or, take, drop}
use lib.Seq.{take-take}
use borrow.Author.Tests.{eq-eqb, ne_eqb}
use Rattle.std.specs.Option.{MatchOption}
use Rattle.std.specs.Prelude.{Some, None}
use Rattle.std.specs.Prelude as code
use Rattle.lists.specs.Lists.{place_with, same_list}
use Rattle.book_slots.specs.Walks.{place_is}
use Rattle.book_slots.specs.Book.{form_room, Slot, slot_of, is_free, name_of, has_name, spot_for}

-- the words of a slot's name, as they are lent
pub name_part : (slot : List ℕ) → get_or slot 0 0 ≤ form_room → take (1 + get_or slot 0 0 - 1) (drop 1 slot) ≡ name_of (slot_of slot)
name_part slot h =
    let e : 1 + get_or slot 0 0 - 1 ≡ get_or slot 0 0 = omega arith in
    rw (e, take-take (get_or slot 0 0) form_room (drop 1 slot) h)

module _ (slot form : List ℕ) where
  pub other_length : (get_or slot 0 0 ≡ length form → ⊥) → false ≡ has_name form (slot_of slot)
  unfolding has_name
  other_length h = sym (rw (ne_eqb (get_or slot 0 0) (length form) h))

  pub same_length : (r : Bool) → length form ≤ form_room → get_or slot 0 0 ≡ length form
      → r ≡ same_list (take (1 + length form - 1) (drop 1 slot)) form → r ≡ has_name form (slot_of slot)
  unfolding has_name
  same_length r h e f =
      let part : take (1 + length form - 1) (drop 1 slot) ≡ name_of (slot_of slot) = rw (← e) (name_part slot (omega arith)) in
      f ∙ rw (eq-eqb (get_or slot 0 0) (length form) e) (ap (λ (s : List ℕ). same_list s form) part)

-- the slot of the name, otherwise the lowest free one
module _ (form : List ℕ) (slots : List Slot) where
  pub spot_either : (o r : code.Option ℕ) (P : Type 0) → (P → place_is r ≡ place_with is_free 0 slots) → MatchOption o P (λ i. r ≡ Some i)
      → place_is o ≡ place_with (has_name form) 0 slots → place_is r ≡ spot_for form slots
  unfolding spot_for
  spot_either (Some i) r P f m e = ap place_is m ∙ sym (rw (← e))
  spot_either None r P f m e = f m ∙ sym (rw (← e))
