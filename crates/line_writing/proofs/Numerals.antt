-- A blank and the digits of a number.
use Prim.Native.Nat.{ℕ, ◌+◌, ◌-◌}
use native.Mathlib.Omega.{arith}
use mathlib.Core.List.{List, [], ◌∷◌}
use lib.ListN.{length, set}
use borrow.Rule.Slice.PartMut.{mid_of, put_mid}
use Rattle.buffers.specs.Writes.{Writes}
use Rattle.buffers.proofs.Written.{writes_byte, writes_none, writes_part, left_behind}
use Rattle.numerals.specs.Numeral.{numeral, NumeralRoom}
use Rattle.line_writing.specs.Writing.{spaced}
use Rattle.line_writing.specs.Promise.{SpacedRoom}

module _ {base n : ℕ} {before : List ℕ} (h : SpacedRoom base n before) where
  blank : Writes (32 ∷ []) before (set before 0 32) 1
  blank = writes_byte 32 (writes_none before) (omega (arith, h.room))

  pub room-spaced : NumeralRoom base n (mid_of 1 (length (set before 0 32) - 1) (set before 0 32))
  room-spaced = record { least = h.least; most = h.most; room = rw (left_behind blank) (omega (arith, h.room)) }

  -- a blank, and the digits behind it
  pub wrote_spaced : {part : List ℕ} {k : ℕ} → Writes (numeral base n) (mid_of 1 (length (set before 0 32) - 1) (set before 0 32)) part k
      → Writes (spaced base n) before (put_mid 1 (length (set before 0 32) - 1) (set before 0 32) part) (1 + k)
  unfolding spaced
  wrote_spaced {part} {k} w = writes_part (numeral base n) part k blank w
