-- The lines of input that comes in pieces.
use Prim.Native.Nat.{ℕ, suc, ◌+◌, ◌-◌, ◌≤◌, ◌<◌}
use native.Mathlib.Omega.{arith}
use native.Mathlib.Nat.{zero-add}
use mathlib.Core.Path.{◌≡◌, refl, sym, ap, ◌∙◌}
use mathlib.Core.Bool.{Bool, true, false, cond}
use mathlib.Core.List.{List, [], ◌∷◌, ◌++◌}
use lib.ListN.{length, take, drop, length-append, length-take}
use lib.Seq.{take_at, take_all, take-append-add, drop-append-add, take-append-le, drop-append-le, length-take-le}
use lib.Dec.{eqb, ltb}
use borrow.Author.Tests.{ltb-true, ltb-false}
use borrow.Rule.Slice.PartMut.{mid_of, put_mid}
use Rattle.buffers.proofs.Parts.{length-tail, put_tail}
use Rattle.lists.specs.Lists.{split, is_empty}
use Rattle.lists.specs.Splits.{split-some}
use Rattle.line_reading.specs.Reading.{most_line, first_at}
use Rattle.lines.specs.Splitting.{without_end, lines_of}
use Rattle.buffers.specs.Writes.{Writes}
use Rattle.lines.specs.Promise.{Holding, LineEnded, PieceHeld, first_line}
use Rattle.line_reading.proofs.Splits.{first_inside, split-whole, split-first}
use Rattle.buffers.proofs.Written.{written_same}

-- where b stands in a text that goes on
pub first-behind : (b : ℕ) (h s : List ℕ) → first_at b h ≡ length h → first_at b (h ++ s) ≡ length h + first_at b s
unfolding first_at
first-behind b [] s e = sym (zero-add (first_at b s))
first-behind b (x ∷ h) s e = go (eqb x b) e (first-behind b h s)
  where
    go : (t : Bool) → cond t 0 (suc (first_at b h)) ≡ suc (length h) → (first_at b h ≡ length h → first_at b (h ++ s) ≡ length h + first_at b s)
        → cond t 0 (suc (first_at b (h ++ s))) ≡ suc (length h) + first_at b s
    go true e f = absurd (omega arith)
    go false e f = let below = f (omega arith) in omega arith

pub first_stays : (b : ℕ) (s r : List ℕ) → first_at b s < length s → first_at b (s ++ r) ≡ first_at b s
unfolding first_at
first_stays b [] r h = absurd (omega arith)
first_stays b (x ∷ s) r h = go (eqb x b) h (first_stays b s r)
  where
    go : (t : Bool) → cond t 0 (suc (first_at b s)) < suc (length s) → (first_at b s < length s → first_at b (s ++ r) ≡ first_at b s)
        → cond t 0 (suc (first_at b (s ++ r))) ≡ cond t 0 (suc (first_at b s))
    go true h f = refl
    go false h f = ap suc (f (omega arith))

first_later : (b : ℕ) (s r : List ℕ) → first_at b s ≤ first_at b (s ++ r)
first_later b s r = go (ltb (first_at b s) (length s)) refl
  where
    go : (t : Bool) → ltb (first_at b s) (length s) ≡ t → first_at b s ≤ first_at b (s ++ r)
    go true e = omega (arith, first_stays b s r (ltb-true (first_at b s) (length s) e))
    go false e =
        let whole : first_at b s ≡ length s = omega (arith, ltb-false (first_at b s) (length s) e, first_inside b s) in
        omega (arith, first-behind b s r whole)

-- a first part with others behind it
without-first : (l : List ℕ) (ls : List (List ℕ)) → 1 ≤ length ls → without_end (l ∷ ls) ≡ l ∷ without_end ls
without-first l [] h = absurd (omega arith)
without-first l (m ∷ ls) h = refl

-- the first line, where it ends at a 0A, and where it is the last
pub lines-first : (s : List ℕ) → first_at 10 s < length s → lines_of s ≡ take (first_at 10 s) s ∷ lines_of (drop (first_at 10 s + 1) s)
unfolding lines_of
lines-first s h =
    let behind = drop (first_at 10 s + 1) s in
    rw (split-first 10 s h) (without-first (take (first_at 10 s) s) (split 10 behind) (split-some 10 behind))

pub lines_last : (s : List ℕ) → first_at 10 s ≡ length s → 1 ≤ length s → lines_of s ≡ s ∷ []
unfolding lines_of
lines_last s e h = rw (split-whole 10 s e) (one s h)
  where
    one : (s : List ℕ) → 1 ≤ length s → cond (is_empty s) [] (s ∷ []) ≡ s ∷ []
    one [] h = absurd (omega arith)
    one (x ∷ s) h = refl

pub lines_none : lines_of [] ≡ []
unfolding lines_of
lines_none = refl

pub first-line_long : (s : List ℕ) → 1 ≤ first_at 10 s → length (first_line (lines_of s)) ≡ first_at 10 s
first-line_long s h = go (ltb (first_at 10 s) (length s)) refl
  where
    go : (t : Bool) → ltb (first_at 10 s) (length s) ≡ t → length (first_line (lines_of s)) ≡ first_at 10 s
    go true e = rw (lines-first s (ltb-true (first_at 10 s) (length s) e)) (length-take-le (first_at 10 s) s (first_inside 10 s))
    go false e =
        let whole : first_at 10 s ≡ length s = omega (arith, ltb-false (first_at 10 s) (length s) e, first_inside 10 s) in
        rw (lines_last s whole (omega arith)) (sym whole)

module _ {line : List ℕ} (piece : List ℕ) {n k : ℕ} (h : Holding line n) (f : k ≡ first_at 10 piece) where
  held_length : length (take n line) ≡ n
  held_length = length-take-le n line (omega (arith, h.room, h.count))

  place : (rest : List ℕ) → first_at 10 (take n line ++ rest) ≡ n + first_at 10 rest
  place rest = first-behind 10 (take n line) rest (h.unended ∙ sym held_length) ∙ rw held_length

  pub piece_inside : k ≤ length piece
  piece_inside = omega (arith, f, first_inside 10 piece)

  -- the line does not fit
  pub line_too_long : most_line - n < k → (rest : List ℕ) → most_line < length (first_line (lines_of (take n line ++ (piece ++ rest))))
  line_too_long l rest =
      let long : most_line < first_at 10 (take n line ++ (piece ++ rest)) = omega (arith, place (piece ++ rest), first_later 10 piece rest, f, h.count) in
      rw (first-line_long (take n line ++ (piece ++ rest)) (omega arith)) long

  pub piece_room : k ≤ most_line - n → length (take k piece) ≤ length (mid_of n (length line - n) line)
  piece_room l = rw (length-tail n line, length-take) (omega (arith, h.room))

  module _ (l : k ≤ most_line - n) {part : List ℕ} {r : ℕ} (w : Writes (take k piece) (mid_of n (length line - n) line) part r) where
    -- what is held afterwards
    text : take (n + k) (put_mid n (length line - n) line part) ≡ take n line ++ take k piece
    text =
        let behind = drop r (mid_of n (length line - n) line) in
        let e : n + k ≡ length (take n line) + k = rw held_length in
        let front : take k (take k piece ++ behind) ≡ take k piece = take_at (take k piece) behind k (length-take-le k piece piece_inside) in
        rw (put_tail n line part, w.holds, e, take-append-add (take n line) (take k piece ++ behind) k, front)

    kept : length (put_mid n (length line - n) line part) ≡ most_line
    kept = rw (put_tail n line part, length-append, held_length, written_same w, length-tail n line) (omega (arith, h.room, h.count))

    -- a line ends in the piece
    pub line_ended : k < length piece → LineEnded (take n line) piece (put_mid n (length line - n) line part) (n + k) (k + 1)
    line_ended b =
        record {
          room = kept;
          short = omega (arith, h.count);
          some = omega arith;
          within = omega arith;
          lines = λ rest.
              let s = take n line ++ (piece ++ rest) in
              let stays : first_at 10 (piece ++ rest) ≡ k = first_stays 10 piece rest (rw (← f) b) ∙ sym f in
              let found : first_at 10 s ≡ n + k = place (piece ++ rest) ∙ rw stays in
              let inside : n + k < length s = rw (length-append, length-append, held_length) (omega arith) in
              let e : n + k ≡ length (take n line) + k = rw held_length in
              let front : take (n + k) s ≡ take n line ++ take k piece =
              rw (e, take-append-add (take n line) (piece ++ rest) k, take-append-le k piece rest (omega arith)) in
              let e' : n + k + 1 ≡ length (take n line) + (k + 1) = rw held_length (omega arith) in
              let behind : drop (n + k + 1) s ≡ drop (k + 1) piece ++ rest =
              rw (e', drop-append-add (take n line) (piece ++ rest) (k + 1), drop-append-le (k + 1) piece rest (omega arith)) in
              lines-first s (rw found inside) ∙ rw (found, front, behind, text);
        }

    -- no line ends in it
    pub piece_held : length piece ≤ k → PieceHeld (take n line) piece (put_mid n (length line - n) line part) (n + k)
    piece_held b =
        let whole : take k piece ≡ piece = take_all k piece b in
        let all : take (n + k) (put_mid n (length line - n) line part) ≡ take n line ++ piece = text ∙ rw whole in
        record {
          holding =
              record {
                room = kept;
                count = omega (arith, h.count);
                unended = rw (all, place piece, f);
              };
          text = all;
        }

-- nothing is held
pub holding_none : (line : List ℕ) → length line ≡ most_line → Holding line 0
unfolding first_at
holding_none line h = record { room = h; count = omega arith; unended = refl }

-- what is held is in the buffer
pub holding_within : {line : List ℕ} {n : ℕ} → Holding line n → n ≡ length (take n line)
holding_within {line} {n} h = sym (length-take-le n line (omega (arith, h.room, h.count)))
