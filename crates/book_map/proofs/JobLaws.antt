-- Laws of the jobs (specs/Jobs) that stand on `same-changed`, `same-added` and `not_full`: what saving does to the slots, it does to the map.
use Rattle.std.specs.Prelude.{ℕ, ◌≤◌, ◌≡◌, List, [], ◌∷◌, ◌++◌, set}
use Rattle.std.proofs.Common.{arith, ap, ◌∙◌}
use Rattle.std.proofs.Math.Path.{refl, sym}
use Rattle.std.proofs.Math.Option.{Option, none, some}
use Rattle.std.proofs.Math.ListN.{length}
use Rattle.std.proofs.lemmas.List.{set_at}
use borrow.Author.Tests.{lt-ltb, le-ltb}
use Rattle.lists.specs.Lists.{place_with}
use Rattle.book_slots.specs.Book.{form_room, account_size, Slot, slot_for, is_free, has_name, spot_for}
use Rattle.book_answers.specs.Calls.{save_in}
use Rattle.book_map.specs.Map.{Entry, leading, lookup, most_entries, map_save, Job, save, find, forget, map_job}
use Rattle.book_map.specs.SlotEntries.{entries_of, Split, split_at, none_any, all_filed, filled_good, filled_entry}
use Rattle.book_map.specs.SameMap.{same-changed, same-added}
use Rattle.book_map.specs.Jobs.{Slots, entries_split, goods_split, long_split, Agree, book_job, Eight, absent, entries, there, put_slots, all_good, rest, not_full, agree_find, agree_forget}

module _ (f : List ℕ) (h : 1 ≤ length f) (k : length f ≤ form_room) (slots : List Slot) (m : List Entry) (s : Slots slots m) where
  -- the slot that has the name, and what the map is with another slot in its place
  module _ (i : ℕ) (t : Split (has_name f) slots i) where
    pub slots-changed : (account : List ℕ) → length account ≡ account_size → Slots (set slots i (slot_for f account)) (leading f account m)
    slots-changed account l =
        put_slots f h k slots m s i t (slot_for f account) (filled_good f account h k l) (leading f account m)
        (rw (entries_split t.front t.back (slot_for f account) (record { form = f; account = account } ∷ []) (filled_entry f account h k))
        (same-changed f t.here.account (entries_of t.front) (entries_of t.back) m (entries f h k slots m s i t) account))

  -- a slot that is free, and what the map is with the form in it
  module _ (i : ℕ) (t : Split is_free slots i) (e : lookup f m ≡ none) where
    pub slots-added : (account : List ℕ) → length account ≡ account_size → Slots (set slots i (slot_for f account)) (leading f account m)
    slots-added account l =
        let x : Slot = slot_for f account in
        let placed : set slots i x ≡ t.front ++ x ∷ t.back =
        ap (λ (r : List Slot). set r i x) t.is ∙ set_at t.front t.here t.back x i t.long in
        rw placed
        (record {
          all = long_split t.front t.back t.here x ∙ ap length (sym t.is) ∙ s.all;
          good = goods_split t.front t.back t.here x (all_good f h k slots m s i t e) (filled_good f account h k l);
          same =
              rw (entries_split t.front t.back x (record { form = f; account = account } ∷ []) (filled_entry f account h k))
              (same-added f account (entries_of t.front) (entries_of t.back) m (rest f h k slots m s i t e) e);
        })

  -- find, forget, save
  agree_save : (account : List ℕ) → length account ≡ account_size → Agree (save_in account f slots) (map_save account f m)
  unfolding save_in spot_for map_save
  agree_save account l = go (place_with (has_name f) 0 slots) refl
    where
      new : place_with (has_name f) 0 slots ≡ none → (o : Option ℕ) → place_with is_free 0 slots ≡ o → Agree (save_in account f slots) (map_save account f m)
      new e none z =
          let full : length m ≡ most_entries = sym s.same.count ∙ all_filed slots (none_any is_free 0 slots z) ∙ s.all in
          rw (e, z, absent f h k slots m s e, le-ltb (length m) most_entries (omega arith)) (refl, refl)
      new e (some i) z =
          let t = split_at is_free i slots z in
          rw (e, z, absent f h k slots m s e, lt-ltb (length m) most_entries (not_full f h k slots m s i t (absent f h k slots m s e))) (refl, slots-added i t (absent f h k slots m s e) account l)

      go : (o : Option ℕ) → place_with (has_name f) 0 slots ≡ o → Agree (save_in account f slots) (map_save account f m)
      go none e = new e (place_with is_free 0 slots) refl
      go (some i) e =
          let t = split_at (has_name f) i slots e in
          rw (e, there f h k slots m s i t) (refl, slots-changed i t account l)

  pub agree_job : (j : Job) → Eight j → Agree (book_job j f slots) (map_job j f m)
  agree_job (save account) l = agree_save account l
  agree_job find l = agree_find f h k slots m s
  agree_job forget l = agree_forget f h k slots m s
