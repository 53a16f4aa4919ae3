-- Writing, clearing and reading the slot at a place.
use Prim.Native.Nat.{ℕ, suc, ◌+◌, ◌-◌, ◌*◌, ◌/◌, ◌%◌, ◌<◌, ◌≤◌}
use native.Mathlib.Omega.{arith}
use mathlib.Core.Path.{◌≡◌, refl, ap, ◌∙◌}
use mathlib.Core.List.{List, [], ◌∷◌, ◌++◌, append-nil}
use lib.ListN.{length, take, drop, set, replicate, length-append, length-drop}
use lib.Seq.{take_at, drop_at, length-take-le}
use borrow.Rule.Slice.PartMut.{mid_of, put_mid}
use Rattle.lists.specs.Lists.{joined_map}
use Rattle.lists.specs.Filled.{filled, length-filled}
use Rattle.buffers.proofs.Parts.{mid_tail, length-tail, put_tail}
use Rattle.book_slots.specs.Book.{form_room, account_size, slot_size, Slot, in_slot, slots_of, slot_for, empty_slot}
use Rattle.book_slots.specs.SlotLaws.{put_slot, zeros_slot}

-- a list is copied to the front, and what is behind it cleared
pub put_filled : (dst src mid part : List ℕ) → length src ≤ length dst → mid ≡ src ++ drop (length src) dst
    → part ≡ replicate (length (mid_of (length src) (length mid - length src) mid)) 0
    → put_mid (length src) (length mid - length src) mid part ≡ filled (length dst) src
put_filled dst src mid part h e f =
    let long : length mid ≡ length dst = ap length e ∙ rw (length-append, length-drop) (omega arith) in
    let front : take (length src) mid ≡ src = ap (take (length src)) e ∙ take_at src (drop (length src) dst) (length src) refl in
    let p : part ≡ replicate (length dst - length src) 0 = f ∙ rw (length-tail (length src) mid, long) in
    put_tail (length src) mid part ∙ rw (front, p)

-- the length of a form and its words take the place of what stood before the account
pub form_put : (slot form part : List ℕ) → length slot ≡ slot_size → length form ≤ form_room → part ≡ filled (length (mid_of 1 255 slot)) form
    → set (put_mid 1 255 slot part) 0 (length form) ≡ (length form ∷ filled form_room form) ++ drop 256 slot
form_put [] form part h k e = absurd (omega arith)
form_put (w ∷ slot) form part h k e =
    let long : length (take 255 slot) ≡ form_room = length-take-le 255 slot (omega arith) in
    let p : part ≡ filled form_room form = e ∙ ap (λ (n : ℕ). filled n form) long in
    rw p

-- and an account the place of the old one
pub account_put : (form account old mid part : List ℕ) → length form ≤ form_room → length old ≡ slot_size → length account ≡ account_size
    → mid ≡ (length form ∷ filled form_room form) ++ drop 256 old
    → part ≡ filled (length (mid_of 256 (length mid - 256) mid)) account
    → put_mid 256 (length mid - 256) mid part ≡ in_slot (slot_for form account)
account_put form account old mid part h k l e f =
    let long : length (length form ∷ filled form_room form) ≡ 256 = ap suc (length-filled form_room form h) in
    let front : take 256 mid ≡ length form ∷ filled form_room form =
    ap (take 256) e ∙ take_at (length form ∷ filled form_room form) (drop 256 old) 256 long in
    let behind : mid_of 256 (length mid - 256) mid ≡ drop 256 old =
    mid_tail 256 mid ∙ ap (drop 256) e ∙ drop_at (length form ∷ filled form_room form) (drop 256 old) 256 long in
    let eight : length (mid_of 256 (length mid - 256) mid) ≡ account_size = ap length behind ∙ rw (length-drop 256 old) (omega arith) in
    let p : part ≡ account = f ∙ rw (eight, l, append-nil) in
    put_tail 256 mid part ∙ rw (front, p)

-- the words of the slot at i, as they are lent
part_long : (n i : ℕ) (ws : List ℕ) → length ws ≡ slot_size * n → i < n
    → length (take (slot_size * i + slot_size - slot_size * i) (drop (slot_size * i) ws)) ≡ slot_size
part_long n i ws h k =
    let e : slot_size * i + slot_size - slot_size * i ≡ slot_size = omega arith in
    rw e (length-take-le slot_size (drop (slot_size * i) ws) (rw (length-drop (slot_size * i) ws) (omega arith)))

-- the slot at i takes new words
module _ (i : ℕ) (ws : List ℕ) (whole : length ws % slot_size ≡ 0) (k : i < length ws / slot_size) where
  count : length ws ≡ slot_size * (length ws / slot_size)
  count = omega arith

  pub put_at : (part : List ℕ) (x : Slot) → part ≡ in_slot x
      → put_mid (slot_size * i) (slot_size * i + slot_size - slot_size * i) ws part ≡ joined_map in_slot (set (slots_of (length ws / slot_size) ws) i x)
  put_at part x e =
      let q : slot_size * i + slot_size - slot_size * i ≡ slot_size = omega arith in
      rw (q, e) (put_slot (length ws / slot_size) i ws x count k)

  -- its words cleared
  pub cleared : (part : List ℕ) → part ≡ replicate (length (mid_of (slot_size * i) (slot_size * i + slot_size - slot_size * i) ws)) 0
      → part ≡ in_slot empty_slot
  cleared part e =
      let q : length (mid_of (slot_size * i) (slot_size * i + slot_size - slot_size * i) ws) ≡ slot_size = part_long (length ws / slot_size) i ws count k in
      e ∙ rw q zeros_slot
