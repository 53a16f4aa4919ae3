-- The entries that slots hold, and what the searches of the book say of them.
use Rattle.std.specs.Prelude.{ℕ, zero, suc, ◌+◌, ◌-◌, ◌≤◌, ◌≡◌, refl, Bool, true, false, not, ◌&&◌, ◌||◌, cond, List, [], ◌∷◌, ◌++◌, length, replicate, eqb, ltb}
use Rattle.std.proofs.Common.{arith, sym, ap, ◌∙◌, length-take-le, eq-eqb, ne_eqb, eqb-true, le-ltb, ltb-false}
use Rattle.std.proofs.Math.Option.{none, some}
use Rattle.std.proofs.lemmas.Bool.{eqb-false}
use Rattle.lists.specs.Lists.{any, joined_map, place_with, same_list}
use Rattle.lists.specs.Laws.{Every, same-list}
use Rattle.lists.specs.Filled.{length-filled, take-filled, drop-filled}
use Rattle.book_slots.specs.Book.{form_room, account_size, Slot, slot_for, empty_slot, is_free, name_of, has_name}
use Rattle.book_slots.specs.Damage.{zeros, slot_damaged, name_twice}
use Rattle.book_slots.specs.SlotLaws.{Regular}
use Rattle.book_map.specs.Map.{Entry, lookup}
use Rattle.book_map.specs.Entries.{Distinct, lookup_nil, none_head, none_tail, none_cons}

-- the entry of a slot: none where it is free
abbrev pub entry_of : Slot → List Entry
entry_of s = cond (is_free s) [] (record { form = name_of s; account = s.account } ∷ [])

-- the entries of the filed slots, in order
abbrev pub entries_of : List Slot → List Entry
entries_of slots = joined_map entry_of slots

-- a slot with the sizes of a slot that is not damaged
pub record Good (s : Slot) : Type 0 where
  pub regular : Regular s
  pub fine : slot_damaged s ≡ false

-- its length is at most 255, so its name has that length
first_false : (a b : Bool) → a || b ≡ false → a ≡ false
first_false true b e = e
first_false false b e = refl

second_false : (a b : Bool) → a || b ≡ false → b ≡ false
second_false true b e = absurd (let w : ◌≡◌ {A = ℕ} 0 1 = cc in omega arith)
second_false false b e = e

pub short : (s : Slot) → Good s → s.size ≤ form_room
unfolding slot_damaged
short s g = ltb-false form_room s.size (first_false (ltb form_room s.size) _ g.fine)

pub name_long : (s : Slot) → Good s → length (name_of s) ≡ s.size
name_long s g = length-take-le s.size s.words (omega (arith, g.regular.form, short s g))

-- a filed slot has a name exactly where the words are the same, and a free one has none
pub filed_name : (f : List ℕ) (s : Slot) → Good s → has_name f s ≡ same_list (name_of s) f
unfolding has_name
filed_name f s g = go (same_list (name_of s) f) refl
  where
    none : (b : Bool) → b && false ≡ false
    none true = refl
    none false = refl

    go : (t : Bool) → same_list (name_of s) f ≡ t → eqb s.size (length f) && same_list (name_of s) f ≡ t
    go true e =
        let q : s.size ≡ length f = sym (name_long s g) ∙ ap length (same-list (name_of s) f e) in
        rw (eq-eqb s.size (length f) q, e)
    go false e = rw e (none (eqb s.size (length f)))

pub free_name : (f : List ℕ) (s : Slot) → 1 ≤ length f → is_free s ≡ true → has_name f s ≡ false
unfolding has_name
free_name f s h e = rw (ne_eqb s.size (length f) (λ q. omega (arith, eqb-true s.size 0 e)))

-- the search for a name finds nothing where no entry has it
pub no_name : (f : List ℕ) (slots : List Slot) → Every Good slots → 1 ≤ length f → any (has_name f) slots ≡ false → lookup f (entries_of slots) ≡ none
no_name f [] g h e = lookup_nil f
no_name f (s ∷ slots) g h e = go (is_free s) refl (no_name f slots g.1 h (second_false (has_name f s) (any (has_name f) slots) e))
  where
    go : (b : Bool) → is_free s ≡ b → lookup f (entries_of slots) ≡ none
        → lookup f (cond b [] (record { form = name_of s; account = s.account } ∷ []) ++ entries_of slots) ≡ none
    go true q r = r
    go false q r =
        none_cons f (record { form = name_of s; account = s.account }) (entries_of slots)
        (sym (filed_name f s g.0) ∙ first_false (has_name f s) (any (has_name f) slots) e) r

pub name_none : (f : List ℕ) (slots : List Slot) → Every Good slots → 1 ≤ length f → lookup f (entries_of slots) ≡ none → any (has_name f) slots ≡ false
name_none f [] g h e = refl
name_none f (s ∷ slots) g h e = go (is_free s) refl e (name_none f slots g.1 h)
  where
    go : (b : Bool) → is_free s ≡ b
        → lookup f (cond b [] (record { form = name_of s; account = s.account } ∷ []) ++ entries_of slots) ≡ none
        → (lookup f (entries_of slots) ≡ none → any (has_name f) slots ≡ false) → has_name f s || any (has_name f) slots ≡ false
    go true q k r = rw (free_name f s h q) (r k)
    go false q k r =
        let new : Entry = record { form = name_of s; account = s.account } in
        rw (filed_name f s g.0 ∙ none_head f new (entries_of slots) k) (r (none_tail f new (entries_of slots) k))

-- a filed name is not empty
pub filed_some : (s : Slot) → Good s → is_free s ≡ false → 1 ≤ length (name_of s)
filed_some s g e = omega (arith, name_long s g, eqb-false s.size 0 e)

-- no name stands twice exactly where the entries are distinct
pub once-distinct : (slots : List Slot) → Every Good slots → name_twice slots ≡ false → Distinct (entries_of slots)
unfolding name_twice Distinct
once-distinct [] g e = tt
once-distinct (s ∷ slots) g e = go (is_free s) refl e (once-distinct slots g.1)
  where
    go : (b : Bool) → is_free s ≡ b → not b && any (has_name (name_of s)) slots || name_twice slots ≡ false
        → (name_twice slots ≡ false → Distinct (entries_of slots))
        → Distinct (cond b [] (record { form = name_of s; account = s.account } ∷ []) ++ entries_of slots)
    go true q k r = r k
    go false q k r = (
      no_name (name_of s) slots g.1 (filed_some s g.0 q) (first_false (any (has_name (name_of s)) slots) (name_twice slots) k),
      r (second_false (any (has_name (name_of s)) slots) (name_twice slots) k),
    )

pub distinct-once : (slots : List Slot) → Every Good slots → Distinct (entries_of slots) → name_twice slots ≡ false
unfolding name_twice Distinct
distinct-once [] g d = refl
distinct-once (s ∷ slots) g d = go (is_free s) refl d (distinct-once slots g.1)
  where
    go : (b : Bool) → is_free s ≡ b → Distinct (cond b [] (record { form = name_of s; account = s.account } ∷ []) ++ entries_of slots)
        → (Distinct (entries_of slots) → name_twice slots ≡ false) → not b && any (has_name (name_of s)) slots || name_twice slots ≡ false
    go true q k r = r k
    go false q k r = rw (name_none (name_of s) slots g.1 (filed_some s g.0 q) k.0, r k.1)

-- what a search finds: a slot with those before and behind it
pub record Split (p : Slot → Bool) (slots : List Slot) (i : ℕ) : Type 0 where
  pub front : List Slot
  pub here : Slot
  pub back : List Slot
  pub is : slots ≡ front ++ here ∷ back
  pub long : length front ≡ i
  pub passes : p here ≡ true

found-split : (p : Slot → Bool) (at i : ℕ) (slots : List Slot) → place_with p at slots ≡ some i → (k : ℕ) × (i ≡ at + k) × Split p slots k
found-split p at i [] e = absurd (let w : ◌≡◌ {A = ℕ} 0 1 = cc in omega arith)
found-split p at i (s ∷ slots) e = go (p s) refl e (found-split p (suc at) i slots)
  where
    go : (b : Bool) → p s ≡ b → cond b (some at) (place_with p (suc at) slots) ≡ some i
        → (place_with p (suc at) slots ≡ some i → (k : ℕ) × (i ≡ suc at + k) × Split p slots k) → (k : ℕ) × (i ≡ at + k) × Split p (s ∷ slots) k
    go true q f r =
        let z : at ≡ i = cc in
        (0, omega arith, record { front = []; here = s; back = slots; is = refl; long = refl; passes = q })
    go false q f r =
        let n = r f in
        let t : Split p slots n.0 = n.2 in (
          suc n.0,
          omega (arith, n.1),
          record {
            front = s ∷ t.front;
            here = t.here;
            back = t.back;
            is = ap (λ (x : List Slot). s ∷ x) t.is;
            long = ap suc t.long;
            passes = t.passes;
          },
        )

pub split_at : (p : Slot → Bool) (i : ℕ) (slots : List Slot) → place_with p 0 slots ≡ some i → Split p slots i
split_at p i slots e = let n = found-split p 0 i slots e in let q : n.0 ≡ i = omega (arith, n.1) in rw q at n.2

pub none_any : (p : Slot → Bool) (at : ℕ) (slots : List Slot) → place_with p at slots ≡ none → any p slots ≡ false
none_any p at [] e = refl
none_any p at (s ∷ slots) e = go (p s) e (none_any p (suc at) slots)
  where
    go : (b : Bool) → cond b (some at) (place_with p (suc at) slots) ≡ none → (place_with p (suc at) slots ≡ none → any p slots ≡ false)
        → b || any p slots ≡ false
    go true f r = absurd (let w : ◌≡◌ {A = ℕ} 0 1 = cc in omega arith)
    go false f r = r f

-- where no slot is free, there are as many entries as slots; else at most as many
pub all_filed : (slots : List Slot) → any is_free slots ≡ false → length (entries_of slots) ≡ length slots
all_filed [] e = refl
all_filed (s ∷ slots) e =
    rw (first_false (is_free s) (any is_free slots) e) (ap suc (all_filed slots (second_false (is_free s) (any is_free slots) e)))

pub few_entries : (slots : List Slot) → length (entries_of slots) ≤ length slots
few_entries [] = omega arith
few_entries (s ∷ slots) = go (is_free s) (few_entries slots)
  where
    go : (b : Bool) → length (entries_of slots) ≤ length slots
        → length (cond b [] (record { form = name_of s; account = s.account } ∷ []) ++ entries_of slots) ≤ suc (length slots)
    go true r = omega arith
    go false r = omega arith

-- the slots that the book writes
zeros-zero : (n : ℕ) → zeros (replicate n 0) ≡ true
zeros-zero zero = refl
zeros-zero (suc n) = zeros-zero n

pub filled_good : (form account : List ℕ) → 1 ≤ length form → length form ≤ form_room → length account ≡ account_size → Good (slot_for form account)
unfolding slot_damaged
filled_good form account l h k =
    record {
      regular = record { form = length-filled form_room form h; eight = k };
      fine =
          rw (le-ltb form_room (length form) h, drop-filled form_room form, zeros-zero (form_room - length form), ne_eqb (length form) 0 (λ e. omega arith));
    }

pub filled_entry : (form account : List ℕ) → 1 ≤ length form → length form ≤ form_room
    → entry_of (slot_for form account) ≡ record { form = form; account = account } ∷ []
filled_entry form account l h =
    rw (ne_eqb (length form) 0 (λ e. omega arith))
    (ap (λ (f : List ℕ). the_entry f) (take-filled form_room form))
  where
    the_entry : List ℕ → List Entry
    the_entry f = record { form = f; account = account } ∷ []

pub empty_good : Good empty_slot
unfolding empty_slot slot_damaged
empty_good = record { regular = record { form = refl; eight = refl }; fine = refl }

pub empty_entry : entry_of empty_slot ≡ []
unfolding empty_slot
empty_entry = refl

pub empty_entries : (n : ℕ) → entries_of (replicate n empty_slot) ≡ []
empty_entries zero = refl
empty_entries (suc n) = rw (empty_entry) (empty_entries n)

pub empty_goods : (n : ℕ) → Every Good (replicate n empty_slot)
empty_goods zero = tt
empty_goods (suc n) = (empty_good, empty_goods n)
