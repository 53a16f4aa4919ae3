-- 02, Item 14: "list the slots whose name the new table refuses or files otherwise ..: each such slot once, ascending, no other slot". By the name
-- call with the new table, the setting off and enough room, on every table.
use Prim.Native.Nat.{ℕ, zero, suc, ◌+◌, ◌≤◌, ◌<◌}
use native.Mathlib.Omega.{arith}
use Rattle.std.specs.Prelude.{◌≡◌, ◌↔◌, length, get_or}
use Rattle.std.proofs.Math.Path.{refl, ap}
use Rattle.std.proofs.Common.{sym, ◌∙◌, ne_eqb}
use mathlib.Core.List.Memᴰ
use mathlib.Core.List.{List, [], ◌∷◌, Memᴰ}
use Rattle.std.proofs.Math.Option.{Option, none, some}
use Rattle.lists.specs.Lists.{on_some}
use Rattle.lists.specs.Laws.{Every, every_imp}
use Rattle.lists.specs.Filled.{take-filled}
use Rattle.limits.specs.Limits.{most_worked}
use Rattle.answers.specs.Verdict.{Verdict, accepted, refused, next}
use Rattle.ending.specs.Numbers.{Refuses}
use Rattle.name.specs.Label.{Label}
use Rattle.name.specs.Name.{name_answer, name_before15, name_result, name_verdict, name_call}
use Rattle.table.specs.Layout.{the_table}
use Rattle.meaning.specs.Numbers.{Before15, name_before-refuses}
use Rattle.meaning.specs.Room.{name_whole}
use Rattle.book_slots.specs.Book.{Slot, empty_slot}
use Rattle.book_answers.specs.Calls.{form_of, fileable, form_for}
use Rattle.refiled.specs.Refiled.{form_by, change_of, changed}
use Rattle.moved_list.specs.Moved.{Entry, slot_change, moved_from}

module _ (words : List ℕ) (work : ℕ) where
  -- The number beside a name is that of the name call with room for every answer: its refusal, 42 or 43 of the form that it gives, 0 for another
  -- form, and none where the form is the name. So 15 is never among them.
  pub by_the_name_call : (name : List ℕ) (room : ℕ) → most_worked ≤ room → changed words work name ≡ change_of name (form_for 0 words name room work)
  unfolding changed form_by form_for name_call name_result
  by_the_name_call name room enough =
      rw (name_whole 0 words name room work enough) (go (name_before15 0 words name work) (name_before-refuses 0 words name work))
    where
      go : (v : Verdict (List Label)) → Refuses (Before15 (the_table words)) v
          → change_of name (next v (λ labels. fileable (name_answer labels))) ≡ change_of name (next (form_of (name_result name room work v)) fileable)
      go (accepted ls) h = rw (take-filled room (name_answer ls))
      go (refused n p) h = rw (ne_eqb n 0 (λ q. omega (arith, h.0)))

  -- an entry is that of the slot with its number, counted from i
  pub record Of (i : ℕ) (slots : List Slot) (e : Entry) : Type 0 where
    pub at : ℕ
    pub inside : at < length slots
    pub slot : e.slot ≡ i + at
    pub change : slot_change words work (get_or slots at empty_slot) ≡ some e.refusal

  one_on : (i : ℕ) (s : Slot) (slots : List Slot) (e : Entry) → Of (suc i) slots e → Of i (s ∷ slots) e
  one_on i s slots e o =
      record { at = suc o.at; inside = omega (arith, o.inside); slot = omega (arith, o.slot); change = o.change }

  listed_of : (i : ℕ) (slots : List Slot) (e : Entry) → Memᴰ e (moved_from words work i slots) → Of i slots e
  unfolding moved_from
  listed_of i [] e m = absurd (Memᴰ.not-nil m)
  listed_of i (s ∷ slots) e m = go (slot_change words work s) refl (listed_of (suc i) slots e) m
    where
      first : (n : ℕ) → slot_change words work s ≡ some n → (Memᴰ e (moved_from words work (suc i) slots) → Of (suc i) slots e)
          → Memᴰ e (record { slot = i; refusal = n } ∷ moved_from words work (suc i) slots) → Of i (s ∷ slots) e
      first n f h (Memᴰ.head q) =
          record {
            at = 0;
            inside = omega arith;
            slot = ap (λ (x : Entry). x.slot) q ∙ omega arith;
            change = f ∙ ap some (sym (ap (λ (x : Entry). x.refusal) q));
          }
      first n f h (Memᴰ.tail k) = one_on i s slots e (h k)

      go : (o : Option ℕ) → slot_change words work s ≡ o → (Memᴰ e (moved_from words work (suc i) slots) → Of (suc i) slots e)
          → Memᴰ e (on_some o (λ n. record { slot = i; refusal = n } ∷ moved_from words work (suc i) slots) (moved_from words work (suc i) slots))
          → Of i (s ∷ slots) e
      go none f h k = one_on i s slots e (h k)
      go (some n) f h k = first n f h k

  of_listed : (i : ℕ) (slots : List Slot) (e : Entry) (at : ℕ) → at < length slots → e.slot ≡ i + at
      → slot_change words work (get_or slots at empty_slot) ≡ some e.refusal → Memᴰ e (moved_from words work i slots)
  unfolding moved_from
  of_listed i [] e at h f g = absurd (omega arith)
  of_listed i (s ∷ slots) e zero h f g =
      let z : e.slot ≡ i = omega arith in
      rw g (Memᴰ.head (ap (λ (n : ℕ). record { slot = n; refusal = e.refusal }) z))
  of_listed i (s ∷ slots) e (suc at) h f g = go (slot_change words work s) (of_listed (suc i) slots e at (omega arith) (omega arith) g)
    where
      go : (o : Option ℕ) → Memᴰ e (moved_from words work (suc i) slots)
          → Memᴰ e (on_some o (λ n. record { slot = i; refusal = n } ∷ moved_from words work (suc i) slots) (moved_from words work (suc i) slots))
      go none m = m
      go (some n) m = Memᴰ.tail m

  -- "each such slot .., no other slot"
  pub listed_exactly : (slots : List Slot) (e : Entry) → Memᴰ e (moved_from words work 0 slots) ↔ Of 0 slots e
  listed_exactly slots e = (listed_of 0 slots e, λ o. of_listed 0 slots e o.at o.inside o.slot o.change)

  -- "once, ascending": each entry's slot is below those of the entries behind it
  abbrev pub Ascending : List Entry → Type 0
  Ascending [] = Unit {0}
  Ascending (e ∷ es) = Every (λ x. e.slot < x.slot) es × Ascending es

  from_on : (i : ℕ) (slots : List Slot) → Every (λ x. i ≤ x.slot) (moved_from words work i slots)
  unfolding moved_from
  from_on i [] = tt
  from_on i (s ∷ slots) =
      go (slot_change words work s)
      (every_imp {P = λ x. suc i ≤ x.slot} {Q = λ x. i ≤ x.slot} (moved_from words work (suc i) slots) (λ x h. omega arith) (from_on (suc i) slots))
    where
      go : (o : Option ℕ) → Every (λ x. i ≤ x.slot) (moved_from words work (suc i) slots)
          → Every (λ x. i ≤ x.slot) (on_some o (λ n. record { slot = i; refusal = n } ∷ moved_from words work (suc i) slots) (moved_from words work (suc i) slots))
      go none h = h
      go (some n) h = (omega arith, h)

  pub ascending : (i : ℕ) (slots : List Slot) → Ascending (moved_from words work i slots)
  unfolding moved_from
  ascending i [] = tt
  ascending i (s ∷ slots) =
      go (slot_change words work s)
      (every_imp {P = λ x. suc i ≤ x.slot} {Q = λ x. i < x.slot} (moved_from words work (suc i) slots) (λ x h. omega arith) (from_on (suc i) slots))
      (ascending (suc i) slots)
    where
      go : (o : Option ℕ) → Every (λ x. i < x.slot) (moved_from words work (suc i) slots) → Ascending (moved_from words work (suc i) slots)
          → Ascending (on_some o (λ n. record { slot = i; refusal = n } ∷ moved_from words work (suc i) slots) (moved_from words work (suc i) slots))
      go none h a = a
      go (some n) h a = (h, a)
