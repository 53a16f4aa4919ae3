-- The slots of a book one after another, and the ends of the call.
use Rattle.std.specs.Prelude.{Result, Ok, Err}
use Rattle.std.specs.Borrow.{Bor}
use Rattle.sections.specs.declared.Sections.{Sections}
use Prim.Native.Nat.{ℕ, zero, suc, ◌+◌, ◌-◌, ◌*◌, ◌/◌, ◌≤◌, ◌<◌}
use native.Mathlib.Numerals.{add-one}
use native.Mathlib.Omega.{arith}
use mathlib.Core.Path.{◌≡◌, refl, sym, ap, ◌∙◌}
use mathlib.Core.Bool.{Bool, true, false, ◌||◌, cond}
use mathlib.Core.List.{List, [], ◌∷◌, ◌++◌, map}
use mathlib.Core.Option.{Option, none, some}
use lib.ListN.{length, get_or, take, drop, length-drop, drop_of_length-le}
use lib.Seq.{length-take-le, drop-cons}
use lib.Dec.{eqb}
use borrow.Author.Tests.{eq-eqb, ne_eqb}
use Rattle.lists.specs.Lists.{any, joined_map, on_some}
use Rattle.limits.specs.Limits.{most_input}
use Rattle.answers.specs.Verdict.{Verdict, accepted, refused, next}
use Rattle.answers.specs.Values.{number_of, place_of}
use Rattle.answers.specs.declared.Refusal.{Refusal}
use Rattle.ending.specs.Finish.{Finishes}
use Rattle.table.specs.Layout.{the_table}
use Rattle.name.specs.Label.{admitted}
use Rattle.name.specs.Admission.{AdmissionIs}
use Rattle.name.specs.Parts.{Put}
use Rattle.book_slots.specs.Book.{area_size, front_size, slot_count, slot_size, form_room, Slot, slot_of, slots_in}
use Rattle.book_slots.specs.Damage.{slot_damaged, name_twice, damaged}
use Rattle.book_slots.specs.SlotLaws.{slots_long}
use Rattle.book_slots.proofs.Naming.{name_part}
use Rattle.book_damage.proofs.Damages.{not_too_long}
use Rattle.book_answers.specs.Calls.{area_number, opened}
use Rattle.book_forms.specs.Forms.{OpeningIs}
use Rattle.book_answers.specs.declared.AreaError.{AreaError}
use Rattle.refiled.specs.Refiled.{refiled_verdict, changed}
use Rattle.listing.specs.Listing.{listed_long}
use Rattle.listing.specs.Filling.{Holds, Filling, fill_start, fill_end, fill_more}
use Rattle.listing.specs.Listed.{judged-listed, judged_refused}
use Rattle.listing.proofs.ListedLaws.{list-kept, list_over}
use Rattle.moved_list.specs.declared.MovedError.{MovedError}
use Rattle.moved_list.specs.declared.MovedError.TheVariants.{Area, Refused, NoRoom}
use Rattle.moved_list.specs.Moved.{Entry, in_list, slot_change, moved_from, moved_before33, moved_listing, moved_call}
use Rattle.moved_list.specs.Promise.{moved_values, MovedCalls}
use Rattle.moved_list.specs.Steps.{slot_verdict, entry_words, SlotsListed, moved_entries, MovedJudged}

nonzero : (n : ℕ) → (n ≡ 0 → ⊥) → 1 ≤ n
nonzero zero h = absurd (h refl)
nonzero (suc n) h = omega arith

-- a slot that is not damaged
module _ (slot : List ℕ) (whole : slot_damaged (slot_of slot) ≡ false) where
  pub form_short : get_or slot 0 0 ≤ form_room
  form_short = not_too_long (slot_of slot) whole

  -- what the judging of its name asks
  pub name_long : length slot ≡ slot_size → (get_or slot 0 0 ≡ 0 → ⊥)
      → (1 ≤ length (take (1 + get_or slot 0 0 - 1) (drop 1 slot))) × (length (take (1 + get_or slot 0 0 - 1) (drop 1 slot)) ≤ most_input)
  name_long e h =
      let z : 1 + get_or slot 0 0 - 1 ≡ get_or slot 0 0 = omega arith in
      let n : length (take (get_or slot 0 0) (drop 1 slot)) ≡ get_or slot 0 0 =
      length-take-le (get_or slot 0 0) (drop 1 slot) (rw (length-drop 1 slot) (omega (arith, form_short))) in
      rw z (omega (arith, nonzero (get_or slot 0 0) h), omega (arith, form_short))

-- its name by the new table
module _ (words : List ℕ) (work : ℕ) (slot : List ℕ) where
  pub free_stays : get_or slot 0 0 ≡ 0 → none ≡ slot_change words work (slot_of slot)
  unfolding slot_change
  free_stays e = rw (eq-eqb (get_or slot 0 0) 0 e)

  pub free_verdict : get_or slot 0 0 ≡ 0 → accepted true ≡ slot_verdict words work (slot_of slot)
  unfolding slot_verdict
  free_verdict e = rw (eq-eqb (get_or slot 0 0) 0 e)

  pub filed_change : slot_damaged (slot_of slot) ≡ false → (get_or slot 0 0 ≡ 0 → ⊥) → (c : Option ℕ)
      → c ≡ changed words work (take (1 + get_or slot 0 0 - 1) (drop 1 slot)) → c ≡ slot_change words work (slot_of slot)
  unfolding slot_change
  filed_change whole h c e = e ∙ rw (name_part slot (form_short slot whole), ne_eqb (get_or slot 0 0) 0 h)

  pub filed_verdict : slot_damaged (slot_of slot) ≡ false → (get_or slot 0 0 ≡ 0 → ⊥) → (v : Verdict Bool)
      → v ≡ refiled_verdict words work (take (1 + get_or slot 0 0 - 1) (drop 1 slot)) → v ≡ slot_verdict words work (slot_of slot)
  unfolding slot_verdict
  filed_verdict whole h v e = e ∙ rw (name_part slot (form_short slot whole), ne_eqb (get_or slot 0 0) 0 h)

-- the entry of a slot in front of those behind it
entry_next : (words : List ℕ) (work i : ℕ) (s : Slot) (slots : List Slot) (c : Option ℕ) → c ≡ slot_change words work s
    → joined_map in_list (moved_from words work i (s ∷ slots)) ≡ entry_words i c ++ joined_map in_list (moved_from words work (i + 1) slots)
unfolding moved_from
entry_next words work i s slots none e = rw (← e, add-one i)
entry_next words work i s slots (some n) e = rw (← e, add-one i)

-- What is known before the slot with the number i: the entries of those before it stand in the list.
pub record Walked (words : List ℕ) (work : ℕ) (xs : List (List ℕ)) (before after : List ℕ) (len i : ℕ) : Type 0 where
  pub few : len ≤ 2 * i
  pub filling : Filling (joined_map in_list (moved_from words work 0 (map slot_of xs))) (joined_map in_list (moved_from words work i (map slot_of (drop i xs)))) before after len

none-moved : (words : List ℕ) (work i : ℕ) → moved_from words work i [] ≡ []
unfolding moved_from
none-moved words work i = refl

entry_short : (i : ℕ) (c : Option ℕ) → length (entry_words i c) ≤ 2
entry_short i none = omega arith
entry_short i (some n) = omega arith

module _ (words : List ℕ) (work : ℕ) (xs : List (List ℕ)) (before : List ℕ) where
  pub walk_start : Walked words work xs before before 0 0
  walk_start = record { few = omega arith; filling = fill_start (joined_map in_list (moved_from words work 0 (map slot_of xs))) before }

  module _ (after : List ℕ) (len i : ℕ) (l : Walked words work xs before after len i) where
    pub walk_end : length xs ≤ i → Holds (joined_map in_list (moved_from words work 0 (map slot_of xs))) before after len
    walk_end h =
        fill_end (joined_map in_list (moved_from words work 0 (map slot_of xs))) before after len
        (rw (drop_of_length-le xs {i = i} h, none-moved words work i) at l.filling)

    module _ (h : i < length xs) where
      pub walk_more : (d : List ℕ) (c : Option ℕ) → c ≡ slot_change words work (slot_of (get_or xs i d))
          → (after' : List ℕ) (len' : ℕ) → Put after after' len true (entry_words i c) len' → Walked words work xs before after' len' (i + 1)
      walk_more d c e after' len' p =
          let cut : drop i xs ≡ get_or xs i d ∷ drop (i + 1) xs = rw (add-one i) (drop-cons xs i d h) in
          let rest : joined_map in_list (moved_from words work i (map slot_of (drop i xs)))
          ≡ entry_words i c ++ joined_map in_list (moved_from words work (i + 1) (map slot_of (drop (i + 1) xs))) =
          rw cut (entry_next words work i (slot_of (get_or xs i d)) (map slot_of (drop (i + 1) xs)) c e) in
          record {
            few = omega (arith, p.ends, entry_short i c, l.few);
            filling =
                fill_more (joined_map in_list (moved_from words work 0 (map slot_of xs))) before after len (entry_words i c)
                (joined_map in_list (moved_from words work (i + 1) (map slot_of (drop (i + 1) xs)))) after' len' (rw rest at l.filling) p;
          }

-- at most an entry for each slot
entries_few : (words : List ℕ) (work i : ℕ) (slots : List Slot) → length (moved_from words work i slots) ≤ length slots
unfolding moved_from
entries_few words work i [] = omega arith
entries_few words work i (s ∷ slots) = go (slot_change words work s) (entries_few words work (suc i) slots)
  where
    go : (c : Option ℕ) → length (moved_from words work (suc i) slots) ≤ length slots
        → length (on_some c (λ n. record { slot = i; refusal = n } ∷ moved_from words work (suc i) slots) (moved_from words work (suc i) slots)) ≤ suc (length slots)
    go none h = omega arith
    go (some n) h = omega arith

-- what the answers before it say
pub opened-whole : (area : List ℕ) (o : Result (Bor (List (List ℕ))) AreaError) → OpeningIs area o → (slots : Bor (List (List ℕ))) → o ≡ Ok slots
    → (opened area ≡ accepted (slots_in area)) × (map slot_of slots.now ≡ slots_in area)
opened-whole area o h slots e = rw e at h

pub opened-not : (area : List ℕ) (o : Result (Bor (List (List ℕ))) AreaError) → OpeningIs area o → (a : AreaError) → o ≡ Err a
    → opened area ≡ refused (area_number a) 0
opened-not area o h a e = rw e at h

-- at most as many slots as a book has
pub slots_few : (area : List ℕ) (xs : List (List ℕ)) → map slot_of xs ≡ slots_in area → length xs ≤ slot_count
slots_few area xs e = omega (arith, count xs, ap length e, slots_long slot_count (drop front_size area))
  where
    count : (ys : List (List ℕ)) → length (map slot_of ys) ≡ length ys
    count [] = refl
    count (y ∷ ys) = ap suc (count ys)

pub not_admitted : (words : List ℕ) (work : ℕ) (r : Result Sections Refusal) → AdmissionIs words [] work r → (f : Refusal) → r ≡ Err f
    → admitted words work [] ≡ refused (number_of f) (place_of f)
not_admitted words work r h f e = rw e at h

-- no slot of a book that is opened is damaged by itself
pub whole-slots : (area : List ℕ) → opened area ≡ accepted (slots_in area) → any slot_damaged (slots_in area) ≡ false
unfolding opened damaged
whole-slots area e = size (eqb (length area) area_size) e
  where
    first : (a b : Bool) → (a || b) ≡ false → a ≡ false
    first true b f = f
    first false b f = refl

    found : (b : Bool) → damaged (slots_in area) ≡ b → cond b (refused 41 0) (accepted (slots_in area)) ≡ accepted (slots_in area)
        → any slot_damaged (slots_in area) ≡ false
    found true d f = absurd (let z : ◌≡◌ {A = ℕ} 0 1 = cc in omega arith)
    found false d f = first (any slot_damaged (slots_in area)) (name_twice (slots_in area)) d

    size : (b : Bool)
        → next (cond b (accepted (slots_in area)) (refused 40 0)) (λ slots. cond (damaged slots) (refused 41 0) (accepted slots)) ≡ accepted (slots_in area)
        → any slot_damaged (slots_in area) ≡ false
    size true f = found (damaged (slots_in area)) refl f
    size false f = absurd (let z : ◌≡◌ {A = ℕ} 0 1 = cc in omega arith)

-- the call as far as 2
module _ (words area list work : List ℕ) where
  pub judged_area : (a : AreaError) → opened area ≡ refused (area_number a) 0 → MovedJudged words area list list work work (Err (Area a))
  unfolding moved_before33
  judged_area a e =
      record { judged = judged_refused moved_listing _ list list work work refl (area_number a) 0 (rw e refl) refl; few = omega arith }

  module _ (e : opened area ≡ accepted (slots_in area)) where
    pub judged_1_2 : (f : Refusal) → admitted words (length work) [] ≡ refused (number_of f) (place_of f) → MovedJudged words area list list work work (Err (Refused f))
    unfolding moved_before33
    judged_1_2 f a =
        record { judged = judged_refused moved_listing _ list list work work refl (number_of f) (place_of f) (rw (e, a) refl) refl; few = omega arith }

    pub judged_entries : admitted words (length work) [] ≡ accepted (the_table words) → (list' work' : List ℕ) (len : ℕ)
        → SlotsListed words (slots_in area) list list' work work' len → MovedJudged words area list list' work work' (Ok (len / 2))
    unfolding moved_before33
    judged_entries a list' work' len s =
        let es : List Entry = moved_from words (length work) 0 (slots_in area) in
        let long : 2 * length es ≡ len = listed_long 2 in_list (λ x. refl) es ∙ sym s.holds.long in
        let half : len / 2 ≡ length es = omega arith in
        record {
          judged =
              rw half (judged-listed moved_listing _ list list' work work' s.same-work es len (rw (e, a) refl) s.holds);
          few = rw half (omega (arith, entries_few words (length work) 0 (slots_in area), slots_long slot_count (drop front_size area)));
        }

-- the ends of the call
module _ (words area list mid list' work mid-work work' : List ℕ) (r : Result ℕ MovedError) (j : MovedJudged words area list mid work mid-work r) (n : ℕ)
    (e : n ≡ 2 * moved_entries r) (kept : Bool) (f : Finishes mid list' mid-work work' n kept) where
  pub moved-kept : kept ≡ true → MovedCalls words area list list' work work' r
  unfolding moved_call
  moved-kept = list-kept moved_listing list mid list' work mid-work work' (moved_values r) _ j.judged n e kept f

  pub moved_over : kept ≡ false → MovedCalls words area list list' work work' (Err NoRoom)
  unfolding moved_call
  moved_over = list_over moved_listing list mid list' work mid-work work' (moved_values r) _ j.judged n e kept f
