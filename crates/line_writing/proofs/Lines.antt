-- A line that is written piece by piece: the room for each piece, and the end of the line.
use Prim.Native.Nat.{ℕ, suc, ◌+◌, ◌-◌, ◌*◌, ◌^◌, ◌≤◌, ◌<◌}
use native.Mathlib.Omega.{arith}
use mathlib.Core.Path.{◌≡◌}
use mathlib.Core.List.{List, [], ◌∷◌, ◌++◌}
use mathlib.Core.List.{append-nil}
use native.Mathlib.Numerals.{add-one}
use lib.ListN.{length, set, take, get_or}
use lib.Seq.{take-suc, take_all}
use borrow.Rule.Slice.PartMut.{mid_of, put_mid}
use Rattle.lists.specs.Lists.{joined_map}
use Rattle.lists.specs.Laws.{joined_append}
use Rattle.line_writing.specs.Writing.{spaced, newline}
use Rattle.buffers.specs.Writes.{Writes}
use Rattle.line_writing.specs.Promise.{SpacedRoom}
use Rattle.buffers.proofs.Written.{writes_none, writes_byte, writes_part, written_same, left_behind}
use Rattle.numerals.proofs.Laws.{numeral_fit}

-- a blank and the digits of a number below base ^ (m + 1)
spaced_most : (base m n : ℕ) → 2 ≤ base → n < base ^ suc m → length (spaced base n) ≤ suc (suc m)
unfolding spaced
spaced_most base m n b h = omega (arith, numeral_fit base b m n h)

-- 64 bits take at most 20 digits, 32 bits at most 8 in hex
pub decimal_most : (n : ℕ) → n < 2 ^ 64 → length (spaced 10 n) ≤ 21
decimal_most n h = spaced_most 10 19 n (omega arith) (omega arith)

pub hex_most : (n : ℕ) → n < 2 ^ 32 → length (spaced 16 n) ≤ 9
hex_most n h = spaced_most 16 7 n (omega arith) (omega arith)

module _ {text before after : List ℕ} {r : ℕ} (w : Writes text before after r) where
  -- room for a number behind the text
  pub room-behind : (base n : ℕ) → 2 ≤ base → base ≤ 16 → length text + length (spaced base n) ≤ length before → SpacedRoom base n (mid_of r (length after - r) after)
  unfolding spaced
  room-behind base n b m h = record { least = b; most = m; room = rw (left_behind w) (omega (arith, w.long)) }

  module _ {more part : List ℕ} {k : ℕ} (p : Writes more (mid_of r (length after - r) after) part k) where
    -- both pieces
    pub both_pieces : Writes (text ++ more) before (put_mid r (length after - r) after part) (r + k)
    both_pieces = writes_part more part k w p

    module _ (h : length text + length more < length before) where
      pub end_inside : r + k < length before
      end_inside = omega (arith, w.long, p.long)

      pub end_room : r + k < length (put_mid r (length after - r) after part)
      end_room =
          let same : length (put_mid r (length after - r) after part) ≡ length before = written_same both_pieces in
          omega (arith, end_inside)

      -- .. and the end of the line
      pub whole-line : Writes (text ++ more ++ newline) before (set (put_mid r (length after - r) after part) (r + k) 10) (r + k + 1)
      whole-line = writes_byte 10 both_pieces end_inside

-- the first i numbers are written, in `at` bytes
pub record Numbering (numbers before after : List ℕ) (at i : ℕ) : Type 0 where
  pub wrote : Writes (joined_map (spaced 16) (take i numbers)) before after at
  pub count : i ≤ length numbers
  pub most : at ≤ 9 * i

pub numbering_start : (numbers before : List ℕ) → Numbering numbers before before 0 0
numbering_start numbers before = record { wrote = writes_none before; count = omega arith; most = omega arith }

module _ {numbers before after : List ℕ} {at i : ℕ} (s : Numbering numbers before after at i) (room : 9 * length numbers ≤ length before) where
  module _ (n : ℕ) (small : n < 2 ^ 32) (h : i < length numbers) where
    numbering_fits : length (joined_map (spaced 16) (take i numbers)) + length (spaced 16 n) ≤ length before
    numbering_fits = omega (arith, hex_most n small, s.wrote.long, s.most)

    pub numbering_room : SpacedRoom 16 n (mid_of at (length after - at) after)
    numbering_room = room-behind s.wrote 16 n (omega arith) (omega arith) numbering_fits

    module _ (e : n ≡ get_or numbers i 0) {part : List ℕ} {k : ℕ} (p : Writes (spaced 16 n) (mid_of at (length after - at) after) part k) where
      pub numbering_place : at + k ≤ length before
      numbering_place = omega (arith, numbering_fits, s.wrote.long, p.long)

      pub numbering_more : Numbering numbers before (put_mid at (length after - at) after part) (at + k) (i + 1)
      numbering_more =
          let taken : take (i + 1) numbers ≡ take i numbers ++ (n ∷ []) = rw (add-one i, take-suc numbers i 0 h, e) in
          let one : joined_map (spaced 16) (n ∷ []) ≡ spaced 16 n = append-nil (spaced 16 n) in
          let text : joined_map (spaced 16) (take (i + 1) numbers) ≡ joined_map (spaced 16) (take i numbers) ++ spaced 16 n =
          rw (taken, joined_append (spaced 16) (take i numbers) (n ∷ []), one) in
          record {
            wrote = rw text (both_pieces s.wrote p);
            count = omega arith;
            most = omega (arith, hex_most n small, p.long, s.most);
          }

  pub numbering_end : length numbers ≤ i → Writes (joined_map (spaced 16) numbers) before after at × (at ≤ 9 * length numbers)
  numbering_end h =
      let whole : take i numbers ≡ numbers = take_all i numbers h in
      (rw whole at s.wrote, omega (arith, s.most, s.count))

  pub numbering_same : length after ≡ length before
  numbering_same = written_same s.wrote

  pub numbering_inside : at ≤ length after
  numbering_inside = omega (arith, numbering_same, s.most, s.count)
