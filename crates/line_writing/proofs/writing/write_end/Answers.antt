-- `write_end`: the word, the count behind it, and the end of the line.
use Prim.Native.Nat.{◌+◌, ◌<◌}
use lib.ListN.{length}
use Rattle.line_writing.specs.Writing.{spaced, end_line}
use Rattle.buffers.proofs.Written.{written_same}
use Rattle.line_writing.proofs.Lines.{decimal_most, room-behind, end_inside, end_room, whole-line}
use native.Mathlib.Omega.{arith}
use Rattle.line_writing.proofs.writing.write_end.Goals as goal
use Rattle.line_writing.proofs.writing.write_end.Goals.{After-slice_known-3-1}

-- there is room for the end of the line
room : (c : After-slice_known-3-1) → 3 + length (spaced 10 c.args.names) < length c.args.out.now
room c = omega (arith, decimal_most _ c.ranges.names.fits)

pub write_spaced-k-requires : goal.write_spaced-k-requires
write_spaced-k-requires c =
    room-behind c.write_word-word.ensures 10 _ (omega arith) (omega arith) (omega (arith, decimal_most _ c.ranges.names.fits))

pub overflow_add-result : goal.overflow_add-result
overflow_add-result c = record { fits = omega (arith, end_inside c.write_word-word.ensures c.write_spaced-k.ensures (room c)) }

pub overflow_add-at : goal.overflow_add-at
overflow_add-at c = record { fits = omega (arith, overflow_add-result c) }

pub bounds-out-at : goal.bounds-out-at
bounds-out-at c = end_room c.write_word-word.ensures c.write_spaced-k.ensures (room c)

pub returns : goal.returns
unfolding end_line
returns c = whole-line c.write_word-word.ensures c.write_spaced-k.ensures (room c)

pub shape_of-out : goal.shape_of-out
shape_of-out c = written_same (returns c)
