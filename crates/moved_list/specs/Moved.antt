-- 02, Item 14: "Given a book and a new table, list the slots whose name the new table refuses or files otherwise, two words each, the slot (from
-- 0) and the refusal ..: each such slot once, ascending, no other slot, the book unchanged."
use Rattle.std.specs.Prelude.{ℕ, suc, refl, cond, List, [], ◌∷◌}
use Rattle.std.proofs.Math.Option.{Option, none, some}
use Rattle.lists.specs.Lists.{on_some}
use Rattle.answers.specs.Verdict.{Verdict, accepted, refused, next}
use Rattle.ending.specs.Ending.{Answering, Result}
use Rattle.name.specs.Label.{admitted}
use Rattle.book_slots.specs.Book.{Slot, is_free, name_of}
use Rattle.book_answers.specs.Calls.{opened}
use Rattle.listing.specs.Listing.{ListValues, listing, list_result}
use Rattle.refiled.specs.Refiled.{changed}

-- "the slot (from 0) and the refusal"
pub record Entry : Type 0 where
  pub slot : ℕ
  pub refusal : ℕ

-- "two words each"
abbrev pub in_list : Entry → List ℕ
in_list e = e.slot ∷ e.refusal ∷ []

-- the number beside a slot, where the new table refuses its name or files it otherwise; a free slot has no name
unfoldable pub slot_change : List ℕ → ℕ → Slot → Option ℕ
unfolding changed
slot_change words work s = cond (is_free s) none (changed words work (name_of s))

-- "each such slot once, ascending, no other slot": the slots from number i on
unfoldable pub moved_from : List ℕ → ℕ → ℕ → List Slot → List Entry
unfolding slot_change
moved_from words work i [] = []
moved_from words work i (s ∷ slots) =
    let rest = moved_from words work (suc i) slots in
    on_some (slot_change words work s) (λ n. record { slot = i; refusal = n } ∷ rest) rest

-- "Refusals: 40, 41, 1, 2, then 33 if the list has no room." 1 and 2, whatever the name, are those of the empty one.
unfoldable pub moved_before33 : List ℕ → List ℕ → ℕ → Verdict (List Entry)
unfolding opened admitted moved_from
moved_before33 words area work = next (opened area) (λ slots. next (admitted words work []) (λ t. accepted (moved_from words work 0 slots)))

-- two words an entry
abbrev pub moved_listing : Answering (List Entry) ListValues
moved_listing = listing 2 in_list (λ e. refl)

-- what the call answers, and every word of the list and of the work area afterwards, on the words of a new table and a book's area, with a list of
-- `room` words and a work area of `work` words; the area is lent to be read alone
unfoldable pub moved_call : List ℕ → List ℕ → ℕ → ℕ → Result ListValues
unfolding moved_before33
moved_call words area room work = list_result moved_listing room work (moved_before33 words area work)
