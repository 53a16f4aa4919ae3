-- Laws of what the look-alike test remembers: how its slots are read and written.
use Prim.Native.Nat.{ℕ, zero, suc, ◌+◌, ◌-◌, ◌*◌, ◌<◌, ◌≤◌}
use native.Mathlib.Omega.{arith}
use mathlib.Core.Path.{◌≡◌, refl, sym, ◌∙◌, ap}
use mathlib.Core.Bool.{Bool, true, false, ◌&&◌, false≢true}
use mathlib.Core.List.{List, [], ◌∷◌, ◌++◌, append-nil}
use mathlib.Core.Logic.{⊎_elim}
use lib.ListN.{length, get_or, take, drop, set, replicate, length-set, length-take, length-drop, length-replicate, drop_of_length-le}
use lib.Seq.{take-nil, drop-nil, drop-drop, take-take, take_at, drop_at, take-set-le, length-take-le}
use lib.Dec.{eqb, ltb}
use borrow.Author.Tests.{ltb-true, ltb-false, eqb-true}
use borrow.Rule.Slice.PartMut.{put_mid, post_of, mid_len, same_len_mid, take_put, drop_put}
use Rattle.lists.specs.Laws.{both_left, both_right, decided}
use Rattle.table.specs.declared.Span.{Span}
use Rattle.table.specs.Table.{Group}
use Rattle.table.specs.Spans.{Fits}
use Rattle.table.specs.Layout.{most_groups, most_words, the_table}
use Rattle.group_numbers.specs.Components.{Components}
use Rattle.group_numbers.proofs.NumberLaws.{same_or_not, strict}
use Rattle.memo.specs.Memo.{slot_count, keyed, slot_size, memo_size, slot_at, valid_in, confused_in, key_of, Small, is_member, ComponentsOf, Slot, Keyed, SlotFor, Memo, Sought, Recalled}

-- a slot has as many words as it should
pub slot_length : (memo : List ℕ) (j : ℕ) → length memo ≡ memo_size → j < slot_count → length (slot_at memo j) ≡ slot_size
slot_length memo j e h = simp (length-take, length-drop) (omega arith)

-- the words from one place to another are those of the slot
pub slot_part : (memo : List ℕ) (j : ℕ) → take (slot_size * j + slot_size - slot_size * j) (drop (slot_size * j) memo) ≡ slot_at memo j
slot_part memo j = let z : slot_size * j + slot_size - slot_size * j ≡ slot_size = omega arith in rw z

-- the words behind a place, as many as are taken
cut : (n m : ℕ) (l : List ℕ) → take m (drop n l) ≡ drop n (take (n + m) l)
cut zero m l = let z : 0 + m ≡ m = omega arith in rw z
cut (suc n) m [] = take-nil m ∙ sym (ap (drop (suc n)) (take-nil (suc n + m)) ∙ drop-nil (suc n))
cut (suc n) m (x ∷ l) = let z : suc n + m ≡ suc (n + m) = omega arith in rw z (cut n m l)

-- the numbers of a slot
pub slot_numbers : (memo : List ℕ) (j : ℕ) → take (slot_size * j + slot_size - (slot_size * j + keyed)) (drop (slot_size * j + keyed) memo) ≡ drop keyed (slot_at memo j)
slot_numbers memo j =
    let z : slot_size * j + slot_size - (slot_size * j + keyed) ≡ most_groups = omega arith in
    rw z (ap (take most_groups) (sym (drop-drop keyed (slot_size * j) memo)) ∙ cut keyed most_groups (drop (slot_size * j) memo))

-- slots of lists that are the same up to their end, or from their start on
slot_front : (l m : List ℕ) (i : ℕ) → take (slot_size * i + slot_size) l ≡ take (slot_size * i + slot_size) m → slot_at l i ≡ slot_at m i
slot_front l m i e = cut (slot_size * i) slot_size l ∙ ap (drop (slot_size * i)) e ∙ sym (cut (slot_size * i) slot_size m)

-- One slot is written: it is what was written, and the others are as before.
module _ (memo ys : List ℕ) (j : ℕ) (size : length memo ≡ memo_size) (h : j < slot_count) (e : length ys ≡ slot_size) where
  abbrev now : List ℕ
  now = put_mid (slot_size * j) (slot_size * j + slot_size - slot_size * j) memo ys

  pub slot_same : slot_at now j ≡ ys
  slot_same =
      let front : length (take (slot_size * j) memo) ≡ slot_size * j = length-take-le (slot_size * j) memo (omega arith) in
      let rest : List ℕ = post_of (slot_size * j) (slot_size * j + slot_size - slot_size * j) memo in
      ap (take slot_size) (drop_at (take (slot_size * j) memo) (ys ++ rest) (slot_size * j) front) ∙ take_at ys rest slot_size e

  before : (i : ℕ) → i < j → slot_at now i ≡ slot_at memo i
  before i l =
      let a : slot_size * i + slot_size ≤ slot_size * j = omega arith in
      slot_front now memo i
      (sym (take-take (slot_size * i + slot_size) (slot_size * j) now a)
      ∙ ap (take (slot_size * i + slot_size)) (take_put (slot_size * j) (slot_size * j + slot_size - slot_size * j) memo ys (omega arith))
      ∙ take-take (slot_size * i + slot_size) (slot_size * j) memo a)

  behind : (i : ℕ) → j < i → slot_at now i ≡ slot_at memo i
  behind i l =
      let a : slot_size * i ≡ (slot_size * j + slot_size) + (slot_size * i - (slot_size * j + slot_size)) = omega arith in
      let z : slot_size * j + slot_size - slot_size * j ≡ slot_size = omega arith in
      let same : drop (slot_size * j + slot_size) now ≡ drop (slot_size * j + slot_size) memo =
      drop_put (slot_size * j) (slot_size * j + slot_size) memo ys (omega arith) (omega arith) (e ∙ sym z) in
      ap (take slot_size)
      (ap (λ (n : ℕ). drop n now) a ∙ sym (drop-drop (slot_size * i - (slot_size * j + slot_size)) (slot_size * j + slot_size) now)
      ∙ ap (drop (slot_size * i - (slot_size * j + slot_size))) same
      ∙ drop-drop (slot_size * i - (slot_size * j + slot_size)) (slot_size * j + slot_size) memo ∙ sym (ap (λ (n : ℕ). drop n memo) a))

  slot_other : (i : ℕ) → (i ≡ j → ⊥) → slot_at now i ≡ slot_at memo i
  slot_other i f = ⊎_elim (λ k. before i (ltb-true i j k)) (λ k. behind i (strict j i (ltb-false i j k) (λ g. f (sym g)))) (decided (ltb i j))

  pub now_size : length now ≡ length memo
  now_size =
      let z : slot_size * j + slot_size - slot_size * j ≡ slot_size = omega arith in
      same_len_mid (slot_size * j) (slot_size * j + slot_size - slot_size * j) memo ys
      (e ∙ sym (z) ∙ sym (mid_len (slot_size * j) (slot_size * j + slot_size) memo (omega arith)))

-- The slot that is written next is put behind all slots.
module _ (ws memo : List ℕ) (w : Memo ws memo) (v : ℕ) where
  next_memo : Memo ws (set memo (slot_count * slot_size) v)
  next_memo =
      record {
        size = length-set memo (slot_count * slot_size) v ∙ w.size;
        each = λ i h. rw (slot_front (set memo (slot_count * slot_size) v) memo i (take-set-le (slot_size * i + slot_size) memo (slot_count * slot_size) v (omega arith))) (w.each i h);
      }

  -- then one slot is written
  pub recalled_new : (valid confused : Span) (ys : List ℕ) (j : ℕ) → j < slot_count → SlotFor ws valid confused ys
      → Recalled ws valid confused (put_mid (slot_size * j) (slot_size * j + slot_size - slot_size * j) (set memo (slot_count * slot_size) v) ys) j
  recalled_new valid confused ys j h s =
      let l : List ℕ = set memo (slot_count * slot_size) v in
      let long : length l ≡ memo_size = next_memo.size in
      let e : length ys ≡ slot_size = s.slot.size in
      let here : slot_at (put_mid (slot_size * j) (slot_size * j + slot_size - slot_size * j) l ys) j ≡ ys = slot_same l ys j long h e in
      record {
        kept =
            record {
              size = now_size l ys j long h e ∙ long;
              each = λ i k. ⊎_elim (λ f. let this : Slot ws (slot_at (put_mid (slot_size * j) (slot_size * j + slot_size - slot_size * j) l ys) j) = rw here s.slot in rw f this) (λ f. rw (slot_other l ys j long h e i f) (next_memo.each i k)) (same_or_not i j);
            };
        few = h;
        found = rw here s;
      }

pub recalled_old : (ws memo : List ℕ) (valid confused : Span) (r : ℕ) → Memo ws memo → Sought ws valid confused memo r → Recalled ws valid confused memo r
recalled_old ws memo valid confused r w s = record { kept = w; few = s.few; found = s.found }

-- a place by its two ends
both : (a b : ℕ) (s : Span) → a ≡ s.from → b ≡ s.to → ◌≡◌ {A = Span} (record { from = a; to = b }) s
both a b s e f = rw (e, f) refl

-- the key of a whole is in front
pub keyed_as : (s : List ℕ) (valid confused : Span) → length s ≡ slot_size → take keyed s ≡ key_of valid confused → Keyed valid confused s
keyed_as [] valid confused size e = absurd (omega (arith, size))
keyed_as (a ∷ []) valid confused size e = absurd (omega (arith, size))
keyed_as (a ∷ b ∷ []) valid confused size e = absurd (omega (arith, size))
keyed_as (a ∷ b ∷ c ∷ []) valid confused size e = absurd (omega (arith, size))
keyed_as (a ∷ b ∷ c ∷ d ∷ s) valid confused size e =
    let word : (i : ℕ) → get_or (a ∷ b ∷ c ∷ d ∷ []) i 0 ≡ get_or (key_of valid confused) i 0 = λ i. ap (λ (l : List ℕ). get_or l i 0) e in
    record { size = size; valid_there = both a b valid (word 0) (word 1); confused_there = both c d confused (word 2) (word 3) }

-- the slot that has the key of a whole
pub sought_part : (ws memo : List ℕ) (valid confused : Span) (j : ℕ) → Memo ws memo → j < slot_count → (n : ℕ) → n ≡ keyed
    → take n (drop (slot_size * j) memo) ≡ key_of valid confused → Sought ws valid confused memo j
sought_part ws memo valid confused j w h n z e =
    let front : take keyed (slot_at memo j) ≡ key_of valid confused =
    take-take keyed slot_size (drop (slot_size * j) memo) (omega arith) ∙ (rw z at e) in
    record { few = h; found = record { slot = w.each j h; key = keyed_as (slot_at memo j) valid confused (w.each j h).size front } }

pub part_length : (memo part : List ℕ) (j : ℕ) → length memo ≡ memo_size → j < slot_count → part ≡ slot_at memo j → length part ≡ slot_size
part_length memo part j e h f = ap length f ∙ slot_length memo j e h

-- the key is written in front
pub keyed_by : (s key : List ℕ) (n : ℕ) (valid confused : Span) → length s ≡ slot_size → n ≡ keyed → key ≡ key_of valid confused
    → Keyed valid confused (put_mid 0 n s key)
keyed_by [] key n valid confused size z e = absurd (omega (arith, size))
keyed_by (a ∷ []) key n valid confused size z e = absurd (omega (arith, size))
keyed_by (a ∷ b ∷ []) key n valid confused size z e = absurd (omega (arith, size))
keyed_by (a ∷ b ∷ c ∷ []) key n valid confused size z e = absurd (omega (arith, size))
keyed_by (a ∷ b ∷ c ∷ d ∷ s) key n valid confused size z e = rw (z, e) (record { size = size; valid_there = refl; confused_there = refl })

-- behind the key the components are written
filled : (ws s ys : List ℕ) (valid confused : Span) → Keyed valid confused s → ComponentsOf ws valid confused ys
    → SlotFor ws valid confused (put_mid keyed (length s - keyed) s ys)
filled ws [] ys valid confused k n = absurd (omega (arith, k.size))
filled ws (a ∷ []) ys valid confused k n = absurd (omega (arith, k.size))
filled ws (a ∷ b ∷ []) ys valid confused k n = absurd (omega (arith, k.size))
filled ws (a ∷ b ∷ c ∷ []) ys valid confused k n = absurd (omega (arith, k.size))
filled ws (a ∷ b ∷ c ∷ d ∷ s) ys valid confused k n =
    let long : length (drop keyed (a ∷ b ∷ c ∷ d ∷ s)) ≤ suc (suc (suc (suc (length s)))) - keyed = omega arith in
    let none : post_of keyed (suc (suc (suc (suc (length s)))) - keyed) (a ∷ b ∷ c ∷ d ∷ s) ≡ [] = drop_of_length-le (drop keyed (a ∷ b ∷ c ∷ d ∷ s)) long in
    let of-key : ComponentsOf ws (record { from = a; to = b }) (record { from = c; to = d }) ys = rw (k.valid_there, k.confused_there) n in
    rw (none, append-nil ys)
    (record {
      slot = record { size = omega (arith, n.size); so = of-key };
      key = record { size = omega (arith, n.size); valid_there = k.valid_there; confused_there = k.confused_there };
    })

-- the places of a part of a table's words
pub small_fits : (ws : List ℕ) (s : Span) → length ws ≤ most_words → Fits ws s → Small s
small_fits ws s h f = record { from = omega (arith, h, f.ordered, f.inside); to = omega (arith, h, f.inside) }

-- the slot that is written lies within the memo
pub next_fits : (memo : List ℕ) (v j : ℕ) → length memo ≡ memo_size → j < slot_count → slot_size * j + slot_size ≤ length (set memo (slot_count * slot_size) v)
next_fits memo v j e h = simp length-set (omega arith)

pub next-length : (memo : List ℕ) (v j : ℕ) → length memo ≡ memo_size → j < slot_count
    → length (take (slot_size * j + slot_size - slot_size * j) (drop (slot_size * j) (set memo (slot_count * slot_size) v))) ≡ slot_size
next-length memo v j e h = part_length (set memo (slot_count * slot_size) v) _ j (length-set memo (slot_count * slot_size) v ∙ e) h (slot_part (set memo (slot_count * slot_size) v) j)

pub recalled_length : (memo : List ℕ) (v : ℕ) (ys : List ℕ) (j : ℕ) → length memo ≡ memo_size → j < slot_count → length ys ≡ slot_size
    → length (put_mid (slot_size * j) (slot_size * j + slot_size - slot_size * j) (set memo (slot_count * slot_size) v) ys) ≡ length memo
recalled_length memo v ys j e h f = now_size (set memo (slot_count * slot_size) v) ys j (length-set memo (slot_count * slot_size) v ∙ e) h f ∙ length-set memo (slot_count * slot_size) v

-- the groups are those of the table
pub filled_from : (ws s ys : List ℕ) (valid confused : Span) (gs : List Group) → gs ≡ (the_table ws).groups → Keyed valid confused s
    → Components gs (is_member ws valid confused) ys → SlotFor ws valid confused (put_mid keyed (length s - keyed) s ys)
filled_from ws s ys valid confused gs e k n = filled ws s ys valid confused k (rw e at n)

-- the numbers of the slot that was found
module _ (ws memo : List ℕ) (valid confused : Span) (r : ℕ) (w : Recalled ws valid confused memo r) where
  pub recalled_components : ComponentsOf ws valid confused (take (slot_size * r + slot_size - (slot_size * r + keyed)) (drop (slot_size * r + keyed) memo))
  recalled_components =
      let s = w.found in
      let so : ComponentsOf ws valid confused (drop keyed (slot_at memo r)) = rw (s.key.valid_there, s.key.confused_there) at s.slot.so in
      rw (slot_numbers memo r) so

-- Nothing is remembered at first: zeros are the components of a whole without members.
drop-zeros : (n m : ℕ) → ◌≡◌ {A = List ℕ} (drop n (replicate m 0)) (replicate (m - n) 0)
drop-zeros zero m = let z : m - 0 ≡ m = omega arith in rw z
drop-zeros (suc n) zero = let z : 0 - suc n ≡ 0 = omega arith in rw z
drop-zeros (suc n) (suc m) = let z : suc m - suc n ≡ m - n = omega arith in rw z (drop-zeros n m)

take-zeros : (n m : ℕ) → n ≤ m → ◌≡◌ {A = List ℕ} (take n (replicate m 0)) (replicate n 0)
take-zeros zero m h = refl
take-zeros (suc n) zero h = absurd (omega arith)
take-zeros (suc n) (suc m) h = ap (λ (l : List ℕ). 0 ∷ l) (take-zeros n m (omega arith))

zero-at : (n i : ℕ) → ◌≡◌ {A = ℕ} (get_or (replicate n 0) i 0) 0
zero-at zero i = refl
zero-at (suc n) zero = refl
zero-at (suc n) (suc i) = zero-at n i

zero_slot : (ws : List ℕ) → Slot ws (replicate slot_size 0)
zero_slot ws =
    record {
      size = length-replicate {A = ℕ} slot_size 0;
      so =
          record {
            size = refl;
            holding = λ i h. absurd (omega (arith, h, zero-at most_groups i));
            joined = λ i j l. absurd (false≢true l.listed);
            apart = λ p f i j h e. absurd (omega (arith, h, zero-at most_groups i));
          };
    }

pub memo_new : (ws : List ℕ) → Memo ws (replicate memo_size 0)
memo_new ws =
    record {
      size = length-replicate {A = ℕ} memo_size 0;
      each = λ j h.
          let z : slot_at (replicate memo_size 0) j ≡ replicate slot_size 0 =
          ap (take slot_size) (drop-zeros (slot_size * j) memo_size) ∙ take-zeros slot_size (memo_size - slot_size * j) (omega arith) in
          rw z (zero_slot ws);
    }
