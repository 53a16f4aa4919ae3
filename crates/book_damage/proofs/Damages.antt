-- What makes a slot damaged, test by test.
use Prim.Native.Nat.{ℕ, zero, suc, ◌+◌, ◌-◌, ◌<◌, ◌≤◌}
use native.Mathlib.Omega.{arith}
use mathlib.Core.Path.{◌≡◌, refl, sym, ap, ◌∙◌}
use mathlib.Core.Bool.{Bool, true, false, not, ◌||◌, cond}
use mathlib.Core.List.{List, [], ◌∷◌, map}
use mathlib.Core.Option.{none, some}
use Rattle.std.specs.Prelude.{Some, None}
use Rattle.std.specs.Prelude as code
use lib.ListN.{length, get_or, take, drop, length-drop, drop_of_length-le}
use lib.Seq.{drop-drop, take_all, drop-cons, length-take-le}
use native.Mathlib.Numerals.{add-one}
use borrow.Author.Tests.{lt-ltb, le-ltb, ltb-false, eq-eqb, ne_eqb}
use Rattle.lists.specs.Lists.{any, place_with}
use Rattle.lists.specs.Tests.{untrue}
use Rattle.book_slots.specs.Book.{form_room, slot_size, Slot, slot_of, name_of, has_name, is_free}
use Rattle.book_slots.specs.Damage.{zeros, slot_damaged, name_twice, damaged}
use Rattle.book_slots.specs.Walks.{named_again, place_is}
use Rattle.book_slots.proofs.Cuts.{drop-take}
use Rattle.book_slots.proofs.Naming.{name_part}

-- the words past the length, as they are lent
past_part : (slot : List ℕ) (n : ℕ) → take (256 - (1 + n)) (drop (1 + n) slot) ≡ drop n (take form_room (drop 1 slot))
past_part slot n =
    let e : 256 - (1 + n) ≡ form_room - n = omega arith in
    rw (e, drop-take n form_room (drop 1 slot), drop-drop n 1 slot)

true_not : (b : Bool) → not b ≡ false → b ≡ true
true_not true e = refl
true_not false e = sym e

module _ (slot : List ℕ) where
  pub too_long : form_room < get_or slot 0 0 → true ≡ slot_damaged (slot_of slot)
  unfolding slot_damaged
  too_long h = sym (rw (lt-ltb form_room (get_or slot 0 0) h))

  module _ (h : get_or slot 0 0 ≤ form_room) where
    pub words-past : (r : Bool) → r ≡ zeros (take (256 - (1 + get_or slot 0 0)) (drop (1 + get_or slot 0 0) slot)) → not r ≡ true
        → true ≡ slot_damaged (slot_of slot)
    unfolding slot_damaged
    words-past r e f =
        let z : zeros (drop (get_or slot 0 0) (take form_room (drop 1 slot))) ≡ false =
        sym (ap zeros (past_part slot (get_or slot 0 0))) ∙ sym e ∙ untrue r f in
        sym (rw (le-ltb form_room (get_or slot 0 0) h, z))

    module _ (r : Bool) (e : r ≡ zeros (take (256 - (1 + get_or slot 0 0)) (drop (1 + get_or slot 0 0) slot))) (f : not r ≡ false) where
      none-past : zeros (drop (get_or slot 0 0) (take form_room (drop 1 slot))) ≡ true
      none-past = sym (ap zeros (past_part slot (get_or slot 0 0))) ∙ sym e ∙ true_not r f

      pub account_left : length slot ≡ slot_size → get_or slot 0 0 ≡ 0 → (q : Bool) → q ≡ zeros (take 8 (drop 256 slot)) → not q ≡ slot_damaged (slot_of slot)
      unfolding slot_damaged
      account_left l g q k =
          let a : zeros (drop 256 slot) ≡ q = ap zeros (sym (take_all 8 (drop 256 slot) (rw (length-drop 256 slot) (omega arith)))) ∙ sym k in
          sym (rw (le-ltb form_room (get_or slot 0 0) h, none-past, eq-eqb (get_or slot 0 0) 0 g, a))

      pub not_damaged : (get_or slot 0 0 ≡ 0 → ⊥) → false ≡ slot_damaged (slot_of slot)
      unfolding slot_damaged
      not_damaged g = sym (rw (le-ltb form_room (get_or slot 0 0) h, none-past, ne_eqb (get_or slot 0 0) 0 g))

-- a slot that is not damaged has a length that its words allow
pub not_too_long : (s : Slot) → slot_damaged s ≡ false → s.size ≤ form_room
unfolding slot_damaged
not_too_long s e = ltb-false form_room s.size (first _ _ e)
  where
    first : (a b : Bool) → a || b ≡ false → a ≡ false
    first true b f = f
    first false b f = refl

-- and so has its name, as it is lent
pub name_short : (slot : List ℕ) → length slot ≡ slot_size → get_or slot 0 0 ≤ form_room → length (take (1 + get_or slot 0 0 - 1) (drop 1 slot)) ≤ form_room
name_short slot e h = rw (length-take-le (1 + get_or slot 0 0 - 1) (drop 1 slot) (rw (length-drop 1 slot) (omega arith))) (omega arith)

-- none of the slots passes a test, so the one at i does not
pub none-at : (p : Slot → Bool) (s : List (List ℕ)) (i : ℕ) (d : List ℕ) → any p (map slot_of s) ≡ false → i < length s → p (slot_of (get_or s i d)) ≡ false
none-at p [] i d e h = absurd (omega arith)
none-at p (x ∷ s) zero d e h = first (p (slot_of x)) (any p (map slot_of s)) e
  where
    first : (a b : Bool) → a || b ≡ false → a ≡ false
    first true b f = f
    first false b f = refl
none-at p (x ∷ s) (suc i) d e h = none-at p s i d (second (p (slot_of x)) (any p (map slot_of s)) e) (omega arith)
  where
    second : (a b : Bool) → a || b ≡ false → b ≡ false
    second true false f = refl
    second true true f = f
    second false b f = f

-- whether two filed slots have one name: the slots from i on, and those behind as they are lent
module _ (s : List (List ℕ)) (i : ℕ) (d : List ℕ) (h : i < length s) (r : Bool)
    (e : r ≡ named_again (slot_of (get_or s i d) ∷ map slot_of (take (length s - (i + 1)) (drop (i + 1) s)))) where
  from_here : name_twice (map slot_of (drop i s)) ≡ r || name_twice (map slot_of (drop (i + 1) s))
  unfolding name_twice named_again
  from_here =
      let all : take (length s - (i + 1)) (drop (i + 1) s) ≡ drop (i + 1) s = take_all _ (drop (i + 1) s) (rw (length-drop (i + 1) s) (omega arith)) in
      rw (drop-cons s i d h, add-one i) (rw (add-one i) at (ap (λ b. b || name_twice (map slot_of (drop (i + 1) s))) (sym (rw all at e))))

  pub twice_here : r ≡ true → name_twice (map slot_of (drop i s)) ≡ true
  twice_here f = from_here ∙ rw f

  pub twice_behind : r ≡ false → name_twice (map slot_of (drop i s)) ≡ name_twice (map slot_of (drop (i + 1) s))
  twice_behind f = from_here ∙ rw f

pub twice_end : (s : List (List ℕ)) (i : ℕ) → length s ≤ i → name_twice (map slot_of (drop i s)) ≡ false
unfolding name_twice
twice_end s i h = rw (drop_of_length-le s {i = i} h)

-- some slot is found exactly where one passes
found-any : (p : Slot → Bool) (at i : ℕ) (s : List Slot) → some i ≡ place_with p at s → true ≡ any p s
found-any p at i [] e = absurd (let z : ◌≡◌ {A = ℕ} 0 1 = cc in omega arith)
found-any p at i (x ∷ s) e = go (p x) e (found-any p (suc at) i s)
  where
    go : (b : Bool) → some i ≡ cond b (some at) (place_with p (suc at) s) → (some i ≡ place_with p (suc at) s → true ≡ any p s) → true ≡ b || any p s
    go true f k = refl
    go false f k = k f

none_any : (p : Slot → Bool) (at : ℕ) (s : List Slot) → none ≡ place_with p at s → false ≡ any p s
none_any p at [] e = refl
none_any p at (x ∷ s) e = go (p x) e (none_any p (suc at) s)
  where
    go : (b : Bool) → none ≡ cond b (some at) (place_with p (suc at) s) → (none ≡ place_with p (suc at) s → false ≡ any p s) → false ≡ b || any p s
    go true f k = absurd (let z : ◌≡◌ {A = ℕ} 0 1 = cc in omega arith)
    go false f k = k f

-- whether the name of a slot stands again behind it
module _ (slot : List ℕ) (behind : List (List ℕ)) where
  pub first-free : get_or slot 0 0 ≡ 0 → false ≡ named_again (slot_of slot ∷ map slot_of behind)
  unfolding named_again
  first-free e = sym (rw (eq-eqb (get_or slot 0 0) 0 e))

  module _ (h : get_or slot 0 0 ≤ form_room) (g : get_or slot 0 0 ≡ 0 → ⊥) where
    -- the name, as it is lent
    abbrev pub lent_name : List ℕ
    lent_name = take (1 + get_or slot 0 0 - 1) (drop 1 slot)

    filed : is_free (slot_of slot) ≡ false
    filed = ne_eqb (get_or slot 0 0) 0 g

    again_found : (i : ℕ) → some i ≡ place_with (has_name lent_name) 0 (map slot_of behind) → true ≡ named_again (slot_of slot ∷ map slot_of behind)
    unfolding named_again
    again_found i e =
        let t : true ≡ any (has_name (name_of (slot_of slot))) (map slot_of behind) =
        found-any (has_name lent_name) 0 i (map slot_of behind) e ∙ rw (name_part slot h) in
        sym (rw filed (sym t))

    again_none : none ≡ place_with (has_name lent_name) 0 (map slot_of behind) → false ≡ named_again (slot_of slot ∷ map slot_of behind)
    unfolding named_again
    again_none e =
        let t : false ≡ any (has_name (name_of (slot_of slot))) (map slot_of behind) =
        none_any (has_name lent_name) 0 (map slot_of behind) e ∙ rw (name_part slot h) in
        sym (rw filed (sym t))

    pub again_is : (o : code.Option ℕ) → place_is o ≡ place_with (has_name lent_name) 0 (map slot_of behind)
        → code.is_some o ≡ named_again (slot_of slot ∷ map slot_of behind)
    again_is (Some i) e = again_found i e
    again_is None e = again_none e

-- damage by itself, then a name that stands twice
pub either_damage : (slots : List Slot) (r : Bool) → r ≡ any slot_damaged slots → r ≡ true → true ≡ damaged slots
unfolding damaged
either_damage slots r e f = sym (rw (← e, f))

pub last_damage : (slots : List Slot) (r q : Bool) → r ≡ any slot_damaged slots → r ≡ false → q ≡ name_twice slots → q ≡ damaged slots
unfolding damaged
last_damage slots r q e f k = k ∙ sym (rw (← e, f))
