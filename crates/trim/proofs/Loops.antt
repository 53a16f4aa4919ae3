-- The turns of the two loops, and what the part behind the blanks at the front is, as it is lent.
use Prim.Native.Nat.{ℕ, zero, suc, ◌+◌, ◌-◌, ◌<◌, ◌≤◌}
use native.Mathlib.Numerals.{add-one}
use native.Mathlib.Omega.{arith}
use mathlib.Core.Path.{◌≡◌, sym, ap, ◌∙◌}
use mathlib.Core.Bool.{true, false}
use mathlib.Core.List.{List, [], ◌∷◌, ◌++◌, reverse, reverse-append, reverse-reverse}
use lib.ListN.{length, take, drop, get_or, drop_of_length-le, length-drop}
use lib.Seq.{drop-cons, take-suc, take_all, length-take-le}
use Rattle.trim.specs.Trim.{is_blank, off_front, off_back, remaining, start_of}
use Rattle.trim.specs.Facts.{front_at, part_of_input}

-- what the codepoint at i says of the start behind it
start_blank : (s : List ℕ) (i : ℕ) → i < length s → is_blank (get_or s i 0) ≡ true → start_of (drop i s) ≡ suc (start_of (drop (suc i) s))
unfolding start_of
start_blank s i h b = rw (drop-cons s i 0 h, b)

start_other : (s : List ℕ) (i : ℕ) → i < length s → is_blank (get_or s i 0) ≡ false → start_of (drop i s) ≡ zero
unfolding start_of
start_other s i h b = rw (drop-cons s i 0 h, b)

start_none : (s : List ℕ) (i : ℕ) → length s ≤ i → start_of (drop i s) ≡ zero
unfolding start_of
start_none s i h = rw (drop_of_length-le s {i = i} h)

module _ (s : List ℕ) (i : ℕ) (from : start_of s ≡ i + start_of (drop i s)) where
  -- one more blank at the front
  pub start_more : i < length s → is_blank (get_or s i 0) ≡ true → start_of s ≡ i + 1 + start_of (drop (i + 1) s)
  start_more h b = let e = start_blank s i h b in rw (add-one i) (omega arith)

  -- the first codepoint that is none
  pub start_stop : i < length s → is_blank (get_or s i 0) ≡ false → i ≡ start_of s
  start_stop h b = let e = start_other s i h b in omega arith

  -- the end
  pub start_end : length s ≤ i → i ≡ start_of s
  start_end h = let e = start_none s i h in omega arith

-- a blank at the back
off_blank : (a : List ℕ) (x : ℕ) → is_blank x ≡ true → off_back (a ++ (x ∷ [])) ≡ off_back a
unfolding off_back off_front
off_blank a x b = rw (reverse-append a (x ∷ []), b)

-- something else at the back
off_other : (a : List ℕ) (x : ℕ) → is_blank x ≡ false → off_back (a ++ (x ∷ [])) ≡ a ++ (x ∷ [])
unfolding off_back off_front
off_other a x b = rw (reverse-append a (x ∷ []), b) (ap reverse (sym (reverse-append a (x ∷ []))) ∙ reverse-reverse (a ++ (x ∷ [])))

module _ (s : List ℕ) (n : ℕ) (behind : off_back s ≡ off_back (take n s)) (some : 0 < n) (room : n ≤ length s) where
  last : take n s ≡ take (n - 1) s ++ (get_or s (n - 1) 0 ∷ [])
  last = let e : suc (n - 1) ≡ n = omega arith in ap (λ (k : ℕ). take k s) (sym e) ∙ take-suc s (n - 1) 0 (omega arith)

  -- one more blank at the back
  pub back_more : is_blank (get_or s (n - 1) 0) ≡ true → off_back s ≡ off_back (take (n - 1) s)
  back_more b = behind ∙ ap off_back last ∙ off_blank (take (n - 1) s) (get_or s (n - 1) 0) b

  -- the last codepoint that is none
  pub back_stop : is_blank (get_or s (n - 1) 0) ≡ false → n ≡ length (off_back s)
  back_stop b =
      let e : off_back s ≡ take n s = behind ∙ ap off_back last ∙ off_other (take (n - 1) s) (get_or s (n - 1) 0) b ∙ sym last in
      rw (e, length-take-le n s room)

-- the loop starts behind the last codepoint
pub back_all : (s : List ℕ) → off_back s ≡ off_back (take (length s) s)
back_all s = ap off_back (sym (take_all (length s) s (omega arith)))

-- nothing but blanks
pub back_end : (s : List ℕ) (n : ℕ) → off_back s ≡ off_back (take n s) → n ≤ 0 → 0 ≡ length (off_back s)
unfolding off_back off_front
back_end s n e h = let z : n ≡ 0 = omega arith in sym (ap length (rw z at e))

-- `&s[start..]`, and the front of it that is not blanks at the back
module _ (s : List ℕ) (start n : ℕ) (e : start ≡ start_of s) where
  rest_is : take (length s - start) (drop start s) ≡ off_front s
  rest_is = rw (take_all (length s - start) (drop start s) (rw length-drop (omega arith)), e, front_at s)

  module _ (f : n ≡ length (off_back (take (length s - start) (drop start s)))) where
    pub part_long : n ≡ length (remaining s)
    unfolding remaining
    part_long = rw (← rest_is) f

    pub part_is : take n (take (length s - start) (drop start s)) ≡ remaining s
    part_is =
        let k : take (length (remaining s)) (drop (start_of s) s) ≡ remaining s = part_of_input s in
        rw (part_long, rest_is, ← front_at s) k
