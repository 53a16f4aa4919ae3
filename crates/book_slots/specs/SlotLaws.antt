-- The words of an area are its slots, one behind the other: reading a slot, and writing one.
use Rattle.std.specs.Prelude.{ℕ, zero, suc, ◌+◌, ◌-◌, ◌*◌, ◌<◌, ◌≡◌, refl, List, [], ◌∷◌, ◌++◌, length, get_or, take, drop, set, replicate}
use Rattle.std.proofs.Common.{arith, sym, ap, ◌∙◌, append_assoc, length-append, length-drop, take-append-drop, take_at, drop_at, drop-drop, length-take-le, take-add}
use Rattle.std.proofs.lemmas.List.{replicate-append-replicate}
use Rattle.lists.specs.Lists.{joined_map}
use Rattle.lists.specs.Laws.{Every}
use Rattle.book_slots.specs.Book.{form_room, account_size, slot_size, Slot, in_slot, slot_of, slots_of, empty_slot}

-- a slot whose parts have the sizes of a slot's
pub record Regular (s : Slot) : Type 0 where
  pub form : length s.words ≡ form_room
  pub eight : length s.account ≡ account_size

-- 264 words are a slot, and a slot is its 264 words
pub slot_words : (ws : List ℕ) → length ws ≡ slot_size → in_slot (slot_of ws) ≡ ws
slot_words [] h = absurd (omega arith)
slot_words (w ∷ ws) h = ap (λ (r : List ℕ). w ∷ r) (take-append-drop form_room ws)

pub slot_regular : (ws : List ℕ) → length ws ≡ slot_size → Regular (slot_of ws)
slot_regular [] h = absurd (omega arith)
slot_regular (w ∷ ws) h =
    record { form = length-take-le form_room ws (omega arith); eight = rw (length-drop form_room ws) (omega arith) }

pub words_slot : (s : Slot) → Regular s → slot_of (in_slot s) ≡ s
words_slot s r = rw (take_at s.words s.account form_room r.form, drop_at s.words s.account form_room r.form)

pub slot_long : (s : Slot) → Regular s → length (in_slot s) ≡ slot_size
slot_long s r = rw (length-append, r.form, r.eight)

pub slots_long : (n : ℕ) (ws : List ℕ) → length (slots_of n ws) ≡ n
unfolding slots_of
slots_long zero ws = refl
slots_long (suc n) ws = ap suc (slots_long n (drop slot_size ws))

-- the lengths of the first slot's words and of those behind it
module _ (n : ℕ) (ws : List ℕ) (h : length ws ≡ slot_size * suc n) where
  head_long : length (take slot_size ws) ≡ slot_size
  head_long = length-take-le slot_size ws (omega arith)

  tail_long : length (drop slot_size ws) ≡ slot_size * n
  tail_long = rw (length-drop slot_size ws) (omega arith)

pub slots-words : (n : ℕ) (ws : List ℕ) → length ws ≡ slot_size * n → joined_map in_slot (slots_of n ws) ≡ ws
unfolding slots_of
slots-words zero [] h = refl
slots-words zero (w ∷ ws) h = absurd (omega arith)
slots-words (suc n) ws h =
    ap (λ (r : List ℕ). r ++ joined_map in_slot (slots_of n (drop slot_size ws))) (slot_words (take slot_size ws) (head_long n ws h))
    ∙ rw (slots-words n (drop slot_size ws) (tail_long n ws h)) (take-append-drop slot_size ws)

pub slots_regular : (n : ℕ) (ws : List ℕ) → length ws ≡ slot_size * n → Every Regular (slots_of n ws)
unfolding slots_of
slots_regular zero ws h = tt
slots_regular (suc n) ws h =
    (slot_regular (take slot_size ws) (head_long n ws h), slots_regular n (drop slot_size ws) (tail_long n ws h))

pub words-slots : (slots : List Slot) → Every Regular slots → slots_of (length slots) (joined_map in_slot slots) ≡ slots
unfolding slots_of
words-slots [] r = refl
words-slots (s ∷ slots) r =
    let first : take slot_size (in_slot s ++ joined_map in_slot slots) ≡ in_slot s =
    take_at (in_slot s) (joined_map in_slot slots) slot_size (slot_long s r.0) in
    let behind : drop slot_size (in_slot s ++ joined_map in_slot slots) ≡ joined_map in_slot slots =
    drop_at (in_slot s) (joined_map in_slot slots) slot_size (slot_long s r.0) in
    ap (λ (ws : List ℕ). slot_of ws ∷ slots_of (length slots) (drop slot_size (in_slot s ++ joined_map in_slot slots))) first
    ∙ ap (λ (ws : List ℕ). slot_of (in_slot s) ∷ slots_of (length slots) ws) behind
    ∙ ap (λ (x : Slot). x ∷ slots_of (length slots) (joined_map in_slot slots)) (words_slot s r.0)
    ∙ ap (λ (rest : List Slot). s ∷ rest) (words-slots slots r.1)

-- Reading a slot: those from number i on are the slot at i and those behind it.
pub slots_next : (n i : ℕ) (ws : List ℕ) → i < n
    → slots_of (n - i) (drop (slot_size * i) ws)
    ≡ slot_of (take slot_size (drop (slot_size * i) ws)) ∷ slots_of (n - (i + 1)) (drop (slot_size * (i + 1)) ws)
unfolding slots_of
slots_next n i ws h =
    let e : n - i ≡ suc (n - (i + 1)) = omega arith in
    let f : slot_size * i + slot_size ≡ slot_size * (i + 1) = omega arith in
    rw (e, drop-drop slot_size (slot_size * i) ws, f)

pub slot_at : (n i : ℕ) (ws : List ℕ) (d : Slot) → i < n → get_or (slots_of n ws) i d ≡ slot_of (take slot_size (drop (slot_size * i) ws))
unfolding slots_of
slot_at zero i ws d h = absurd (omega arith)
slot_at (suc n) zero ws d h = refl
slot_at (suc n) (suc i) ws d h =
    let f : slot_size + slot_size * i ≡ slot_size * suc i = omega arith in
    slot_at n i (drop slot_size ws) d (omega arith) ∙ rw (drop-drop (slot_size * i) slot_size ws, f)

-- Writing a slot: the words of one take the place of those of the slot at i.
pub put_slot : (n i : ℕ) (ws : List ℕ) (x : Slot) → length ws ≡ slot_size * n → i < n
    → take (slot_size * i) ws ++ (in_slot x ++ drop slot_size (drop (slot_size * i) ws)) ≡ joined_map in_slot (set (slots_of n ws) i x)
unfolding slots_of
put_slot zero i ws x h k = absurd (omega arith)
put_slot (suc n) zero ws x h k = rw (slots-words n (drop slot_size ws) (tail_long n ws h))
put_slot (suc n) (suc i) ws x h k =
    let f : slot_size * suc i ≡ slot_size + slot_size * i = omega arith in
    let first : in_slot (slot_of (take slot_size ws)) ≡ take slot_size ws = slot_words (take slot_size ws) (head_long n ws h) in
    let rest = put_slot n i (drop slot_size ws) x (tail_long n ws h) (omega arith) in
    let tail : List ℕ = in_slot x ++ drop slot_size (drop (slot_size * i) (drop slot_size ws)) in
    rw (f, take-add slot_size (slot_size * i) ws, ← drop-drop (slot_size * i) slot_size ws)
    (append_assoc (take slot_size ws) (take (slot_size * i) (drop slot_size ws)) tail
    ∙ ap (λ (r : List ℕ). take slot_size ws ++ r) rest
    ∙ ap (λ (r : List ℕ). r ++ joined_map in_slot (set (slots_of n (drop slot_size ws)) i x)) (sym first))

-- Cleared words are free slots.
pub zeros_slot : replicate {A = ℕ} slot_size 0 ≡ in_slot empty_slot
unfolding empty_slot
zeros_slot = refl

pub zeros-slots : (n : ℕ) → replicate {A = ℕ} (slot_size * n) 0 ≡ joined_map in_slot (replicate n empty_slot)
zeros-slots zero = refl
zeros-slots (suc n) =
    let e : slot_size * suc n ≡ slot_size + slot_size * n = omega arith in
    rw e
    (sym (replicate-append-replicate slot_size (slot_size * n) 0)
    ∙ ap (λ (r : List ℕ). r ++ replicate (slot_size * n) 0) zeros_slot
    ∙ ap (λ (r : List ℕ). in_slot empty_slot ++ r) (zeros-slots n))
