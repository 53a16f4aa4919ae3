-- What is done in the slots under a form.
use Prim.Native.Nat.{ℕ, zero, suc, ◌+◌, ◌*◌, ◌/◌, ◌<◌}
use native.Mathlib.Omega.{arith}
use mathlib.Core.Path.{◌≡◌, refl, sym, ap, ◌∙◌}
use mathlib.Core.Bool.{Bool, true, false, cond}
use mathlib.Core.List.{List, [], ◌∷◌, map}
use mathlib.Core.Option.{Option, none, some}
use lib.ListN.{length, get_or, set}
use Rattle.lists.specs.Lists.{joined_map, on_some, place_with}
use Rattle.book_slots.specs.Book.{slot_size, slot_count, Slot, slot_of, in_slot, slots_of, slot_for, empty_slot, is_free, has_name, spot_for}
use Rattle.book_slots.specs.SlotLaws.{slots_long, slots-words}
use Rattle.book_slots.specs.Walks.{place_is}
use Rattle.std.specs.Prelude.{Result, Ok, Err, Some, None}
use Rattle.std.specs.Prelude as code
use Rattle.book_slots.specs.declared.Account.{Account}
use Rattle.book_answers.specs.declared.BookError.{BookError}
use Rattle.book_answers.specs.declared.BookError.TheVariants.{NotFiled, Full}
use Rattle.book_answers.specs.Calls.{no_account, save_in, find_in, forget_in}
use Rattle.book_answers.specs.Promise.{done_values, find_values}
use Rattle.book_jobs.specs.Works.{Works}

-- what save and forget answer
abbrev done : Result (Unit {0}) BookError
done = Ok tt

abbrev not_done : BookError → Result (Unit {0}) BookError
not_done e = Err e

-- a place that is found is one of the list
place_inside : (p : Slot → Bool) (at i : ℕ) (s : List Slot) → some i ≡ place_with p at s → i < at + length s
place_inside p at i [] e = absurd (let z : ◌≡◌ {A = ℕ} 0 1 = cc in omega arith)
place_inside p at i (x ∷ s) e = go (p x) e (place_inside p (suc at) i s)
  where
    go : (b : Bool) → some i ≡ cond b (some at) (place_with p (suc at) s) → (some i ≡ place_with p (suc at) s → i < suc at + length s)
        → i < at + length (x ∷ s)
    go true f k = let q : i ≡ at = cc in omega arith
    go false f k = omega (arith, k f)

-- the slots as they are lent, and a place among them
module _ (slots : List ℕ) (h : length slots ≡ slot_size * slot_count) where
  pub whole_count : length slots / slot_size ≡ slot_count
  whole_count = omega arith

  module _ (xs : List (List ℕ)) (l : map slot_of xs ≡ slots_of (length slots / slot_size) slots) where
    lent : map slot_of xs ≡ slots_of slot_count slots
    lent = rw whole_count at l

    module _ (f : List Slot → Option ℕ) (o : code.Option ℕ) (e : place_is o ≡ f (map slot_of xs)) where
      pub told_some : (i : ℕ) → o ≡ Some i → some i ≡ f (slots_of slot_count slots)
      told_some i g = rw (g, lent) at e

      pub told_none : o ≡ None → none ≡ f (slots_of slot_count slots)
      told_none g = rw (g, lent) at e

    slot_here : (ys : List (List ℕ)) (i : ℕ) (d : List ℕ) (x : Slot) → i < length ys → get_or (map slot_of ys) i x ≡ slot_of (get_or ys i d)
    slot_here [] i d x k = absurd (omega arith)
    slot_here (y ∷ ys) zero d x k = refl
    slot_here (y ∷ ys) (suc i) d x k = slot_here ys i d x (omega arith)

    count_of : (ys : List (List ℕ)) → length (map slot_of ys) ≡ length ys
    count_of [] = refl
    count_of (y ∷ ys) = ap suc (count_of ys)

    module _ (i : ℕ) (k : i < slot_count) where
      pub inside_lent : i < length xs
      inside_lent = omega (arith, count_of xs, ap length lent, slots_long slot_count slots)

      pub account_here : (d : List ℕ) → (slot_of (get_or xs i d)).account ≡ (get_or (slots_of slot_count slots) i empty_slot).account
      account_here d = rw (← lent, slot_here xs i d empty_slot inside_lent)

module _ (slots : List ℕ) (form : List ℕ) where
  pub found_inside : (i : ℕ) → some i ≡ place_with (has_name form) 0 (slots_of slot_count slots) → i < slot_count
  found_inside i e = omega (arith, place_inside (has_name form) 0 i (slots_of slot_count slots) e, slots_long slot_count slots)

  pub spot_inside : (i : ℕ) → some i ≡ spot_for form (slots_of slot_count slots) → i < slot_count
  unfolding spot_for
  spot_inside i e = go (place_with (has_name form) 0 (slots_of slot_count slots)) refl e
    where
      go : (o : Option ℕ) → place_with (has_name form) 0 (slots_of slot_count slots) ≡ o
          → some i ≡ on_some o some (place_with is_free 0 (slots_of slot_count slots)) → i < slot_count
      go none f g = omega (arith, place_inside is_free 0 i (slots_of slot_count slots) g, slots_long slot_count slots)
      go (some j) f g = found_inside i (g ∙ sym f)

  -- save
  pub saved : (account after : List ℕ) (i : ℕ) → some i ≡ spot_for form (slots_of slot_count slots)
      → after ≡ joined_map in_slot (set (slots_of slot_count slots) i (slot_for form account))
      → Works (save_in account form (slots_of slot_count slots)) slots after (done_values done)
  unfolding save_in
  saved account after i e f = rw (← e) (record { values = refl; slots = f })

  pub not_saved : (account : List ℕ) → none ≡ spot_for form (slots_of slot_count slots)
      → Works (save_in account form (slots_of slot_count slots)) slots slots (done_values (not_done Full))
  unfolding save_in
  not_saved account e = rw (← e) (record { values = refl; slots = refl })

  -- find
  pub found : length slots ≡ slot_size * slot_count → (account : Account) (i : ℕ) → some i ≡ place_with (has_name form) 0 (slots_of slot_count slots)
      → account.words ≡ (get_or (slots_of slot_count slots) i empty_slot).account
      → Works (find_in form (slots_of slot_count slots)) slots slots (find_values (Ok account))
  unfolding find_in
  found h account i e f = rw (← e, f) (record { values = refl; slots = sym (slots-words slot_count slots h) })

  pub not_found : none ≡ place_with (has_name form) 0 (slots_of slot_count slots)
      → Works (find_in form (slots_of slot_count slots)) slots slots (find_values (Err NotFiled))
  unfolding find_in
  not_found e = rw (← e) (record { values = refl; slots = refl })

  -- forget
  pub forgotten : (after : List ℕ) (i : ℕ) → some i ≡ place_with (has_name form) 0 (slots_of slot_count slots)
      → after ≡ joined_map in_slot (set (slots_of slot_count slots) i empty_slot)
      → Works (forget_in form (slots_of slot_count slots)) slots after (done_values done)
  unfolding forget_in
  forgotten after i e f = rw (← e) (record { values = refl; slots = f })

  pub not_forgotten : none ≡ place_with (has_name form) 0 (slots_of slot_count slots)
      → Works (forget_in form (slots_of slot_count slots)) slots slots (done_values (not_done NotFiled))
  unfolding forget_in
  not_forgotten e = rw (← e) (record { values = refl; slots = refl })
