-- Each job in the slots is that job in the map (`agree_job`, in proofs/JobLaws).
use Rattle.std.specs.Prelude.{ℕ, ◌<◌, ◌≤◌, ◌≡◌, true, false, List, [], ◌∷◌, ◌++◌, get_or, set}
use Rattle.std.proofs.Common.{arith, ap, ◌∙◌, length-append}
use Rattle.std.proofs.Math.Path.{refl, sym}
use Rattle.std.proofs.Math.Option.{Option, none, some}
use Rattle.std.proofs.Math.ListN.{length}
use Rattle.std.proofs.lemmas.List.{set_at, get_or_at}
use Rattle.lists.specs.Lists.{place_with}
use Rattle.lists.specs.Laws.{Every, every_append, every_front, every_back, same-list, joined_append}
use Rattle.lists.specs.Tests.{never, not_so}
use Rattle.answers.specs.Verdict.{Verdict, accepted, refused}
use Rattle.book_slots.specs.Book.{slot_count, form_room, account_size, Slot, empty_slot, is_free, name_of, has_name}
use Rattle.book_answers.specs.Calls.{Kept, save_in, find_in, forget_in}
use Rattle.book_map.specs.Map.{Entry, lookup, without, most_entries, Changed, map_find, map_forget, Job, save, find, forget}
use Rattle.book_map.specs.Entries.{between}
use Rattle.book_map.specs.SlotEntries.{entry_of, entries_of, Good, filed_name, free_name, no_name, Split, split_at, none_any, few_entries, empty_good, empty_entry}
use Rattle.book_map.specs.SameMap.{Same, same-lookup, same_forgotten}

-- the slots hold a map
pub record Slots (slots : List Slot) (m : List Entry) : Type 0 where
  pub all : length slots ≡ slot_count
  pub good : Every Good slots
  pub same : Same (entries_of slots) m

-- one slot in its place, and another in the same place
module _ (front back : List Slot) where
  pub entries_split : (s : Slot) (e : List Entry) → entry_of s ≡ e → entries_of (front ++ s ∷ back) ≡ entries_of front ++ (e ++ entries_of back)
  entries_split s e h = joined_append entry_of front (s ∷ back) ∙ rw h

  pub goods_split : (s t : Slot) → Every Good (front ++ s ∷ back) → Good t → Every Good (front ++ t ∷ back)
  goods_split s t g h = every_append Good front (t ∷ back) (every_front Good front (s ∷ back) g) (h, (every_back Good front (s ∷ back) g).1)

  pub long_split : (s t : Slot) → length (front ++ t ∷ back) ≡ length (front ++ s ∷ back)
  long_split s t = rw (length-append, length-append)

-- a slot that has a name holds its entry
module _ (f : List ℕ) (h : 1 ≤ length f) (s : Slot) (g : Good s) (e : has_name f s ≡ true) where
  is_filed : is_free s ≡ false
  is_filed = not_so (is_free s) (λ t. never (has_name f s) e (free_name f s h t))

  pub named_entry : entry_of s ≡ record { form = f; account = s.account } ∷ []
  named_entry = rw is_filed (ap (λ (n : List ℕ). with_name n) (same-list (name_of s) f (sym (filed_name f s g) ∙ e)))
    where
      with_name : List ℕ → List Entry
      with_name n = record { form = n; account = s.account } ∷ []

-- what the book's verdict and the map's have to do with each other
abbrev pub Agree : Verdict Kept → Verdict Changed → Type 0
Agree (accepted k) (accepted c) = (k.account ≡ c.account) × Slots k.slots c.map
Agree (accepted k) (refused n p) = ⊥
Agree (refused n p) (accepted c) = ⊥
Agree (refused n p) (refused q r) = (n ≡ q) × (p ≡ r)

-- the book's side of a job
abbrev pub book_job : Job → List ℕ → List Slot → Verdict Kept
book_job (save account) form slots = save_in account form slots
book_job find form slots = find_in form slots
book_job forget form slots = forget_in form slots

-- an account has 8 words
abbrev pub Eight : Job → Type 0
Eight (save account) = length account ≡ account_size
Eight find = Unit {0}
Eight forget = Unit {0}

module _ (f : List ℕ) (h : 1 ≤ length f) (k : length f ≤ form_room) (slots : List Slot) (m : List Entry) (s : Slots slots m) where
  pub absent : place_with (has_name f) 0 slots ≡ none → lookup f m ≡ none
  absent e = sym (s.same.leads f) ∙ no_name f slots s.good h (none_any (has_name f) 0 slots e)

  -- the slot that has the name, and what the map is with another slot in its place
  module _ (i : ℕ) (t : Split (has_name f) slots i) where
    goods : Every Good (t.front ++ t.here ∷ t.back)
    goods = rw t.is at s.good

    here_good : Good t.here
    here_good = (every_back Good t.front (t.here ∷ t.back) goods).0

    pub entries : Same (between f t.here.account (entries_of t.front) (entries_of t.back)) m
    entries =
        rw (ap entries_of t.is
        ∙ entries_split t.front t.back t.here (record { form = f; account = t.here.account } ∷ [])
        (named_entry f h t.here here_good t.passes))
        at s.same

    pub there : lookup f m ≡ some t.here.account
    there = same-lookup f t.here.account (entries_of t.front) (entries_of t.back) m entries

    pub its_slot : (d : Slot) → get_or slots i d ≡ t.here
    its_slot d = ap (λ (l : List Slot). get_or l i d) t.is ∙ get_or_at t.front t.here t.back d i t.long

    module _ (x : Slot) (g : Good x) where
      placed : set slots i x ≡ t.front ++ x ∷ t.back
      placed = ap (λ (l : List Slot). set l i x) t.is ∙ set_at t.front t.here t.back x i t.long

      pub put_slots : (n : List Entry) → Same (entries_of (t.front ++ x ∷ t.back)) n → Slots (set slots i x) n
      put_slots n q =
          rw placed
          (record {
            all = long_split t.front t.back t.here x ∙ ap length (sym t.is) ∙ s.all;
            good = goods_split t.front t.back t.here x goods g;
            same = q;
          })

    pub slots_forgotten : Slots (set slots i empty_slot) (without f m)
    slots_forgotten =
        put_slots empty_slot empty_good (without f m)
        (rw (entries_split t.front t.back empty_slot [] empty_entry)
        (same_forgotten f t.here.account (entries_of t.front) (entries_of t.back) m entries))

  -- a slot that is free, and what the map is with the form in it
  module _ (i : ℕ) (t : Split is_free slots i) (e : lookup f m ≡ none) where
    pub all_good : Every Good (t.front ++ t.here ∷ t.back)
    all_good = rw t.is at s.good

    pub rest : Same (entries_of t.front ++ entries_of t.back) m
    rest =
        rw (ap entries_of t.is ∙ entries_split t.front t.back t.here [] (rw t.passes refl))
        at s.same

    pub not_full : length m < most_entries
    not_full =
        omega (
          arith,
          rest.count,
          length-append (entries_of t.front) (entries_of t.back),
          few_entries t.front,
          few_entries t.back,
          s.all,
          ap length t.is,
          length-append t.front (t.here ∷ t.back),
        )

  -- find, forget, save
  pub agree_find : Agree (find_in f slots) (map_find f m)
  unfolding find_in map_find
  agree_find = go (place_with (has_name f) 0 slots) refl
    where
      go : (o : Option ℕ) → place_with (has_name f) 0 slots ≡ o → Agree (find_in f slots) (map_find f m)
      go none e = rw (e, absent e) (refl, refl)
      go (some i) e =
          let t = split_at (has_name f) i slots e in
          rw (e, there i t) (ap (λ (x : Slot). x.account) (its_slot i t empty_slot), s)

  pub agree_forget : Agree (forget_in f slots) (map_forget f m)
  unfolding forget_in map_forget
  agree_forget = go (place_with (has_name f) 0 slots) refl
    where
      go : (o : Option ℕ) → place_with (has_name f) 0 slots ≡ o → Agree (forget_in f slots) (map_forget f m)
      go none e = rw (e, absent e) (refl, refl)
      go (some i) e =
          let t = split_at (has_name f) i slots e in
          rw (e, there i t) (refl, slots_forgotten i t)
