-- `write_no`: the word, the refusal and the place behind it, and the end of the line.
use Prim.Native.Nat.{◌+◌, ◌<◌}
use mathlib.Core.List.{[], ◌++◌, ◌∷◌}
use lib.ListN.{length, length-append}
use Rattle.line_writing.specs.Writing.{spaced, no_line}
use Rattle.buffers.proofs.Written.{written_same}
use Rattle.line_writing.proofs.Lines.{decimal_most, room-behind, both_pieces, end_inside, end_room, whole-line}
use native.Mathlib.Omega.{arith}
use Rattle.line_writing.proofs.writing.write_no.Goals as goal
use Rattle.line_writing.proofs.writing.write_no.Goals.{After-slice_known-4-1}

-- there is room for the end of the line
room : (c : After-slice_known-4-1) → length ((110 ∷ 111 ∷ []) ++ spaced 10 c.args.number) + length (spaced 10 c.args.place) < length c.args.out.now
room c = rw length-append (omega (arith, decimal_most _ c.ranges.number.fits, decimal_most _ c.ranges.place.fits))

pub write_spaced-k-requires : goal.write_spaced-k-requires
write_spaced-k-requires c =
    room-behind c.write_word-word.ensures 10 _ (omega arith) (omega arith) (omega (arith, decimal_most _ c.ranges.number.fits))

pub overflow_add-first : goal.overflow_add-first
overflow_add-first c =
    record { fits = omega (arith, end_inside c.write_word-word.ensures c.write_spaced-k.ensures (omega (arith, decimal_most _ c.ranges.number.fits))) }

pub slice_bounds-write_spaced-count-2 : goal.slice_bounds-write_spaced-count-2
slice_bounds-write_spaced-count-2 c =
    omega (arith, end_room c.write_word-word.ensures c.write_spaced-k.ensures (omega (arith, decimal_most _ c.ranges.number.fits)))

pub slice_bounds-write_spaced-start-2 : goal.slice_bounds-write_spaced-start-2
slice_bounds-write_spaced-start-2 c = slice_bounds-write_spaced-count-2 c

pub write_spaced-l-requires : goal.write_spaced-l-requires
write_spaced-l-requires c =
    room-behind (both_pieces c.write_word-word.ensures c.write_spaced-k.ensures) 10 _ (omega arith) (omega arith) (rw length-append (omega (arith, decimal_most _ c.ranges.number.fits, decimal_most _ c.ranges.place.fits)))

pub overflow_add-result : goal.overflow_add-result
overflow_add-result c =
    record { fits = omega (arith, end_inside (both_pieces c.write_word-word.ensures c.write_spaced-k.ensures) c.write_spaced-l.ensures (room c)) }

pub overflow_add-at : goal.overflow_add-at
overflow_add-at c = record { fits = omega (arith, overflow_add-result c) }

pub bounds-out-at : goal.bounds-out-at
bounds-out-at c = end_room (both_pieces c.write_word-word.ensures c.write_spaced-k.ensures) c.write_spaced-l.ensures (room c)

pub returns : goal.returns
unfolding no_line
returns c = whole-line (both_pieces c.write_word-word.ensures c.write_spaced-k.ensures) c.write_spaced-l.ensures (room c)

pub shape_of-out : goal.shape_of-out
shape_of-out c = written_same (returns c)
