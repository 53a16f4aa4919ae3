-- `write_ok`: the word, the numbers behind it, and the end of the line.
use Prim.Native.Nat.{◌+◌, ◌<◌}
use lib.ListN.{length}
use Rattle.lists.specs.Lists.{joined_map}
use Rattle.line_writing.specs.Writing.{spaced, ok_line}
use Rattle.buffers.proofs.Written.{written_same, left_behind}
use Rattle.line_writing.proofs.Lines.{end_inside, end_room, whole-line}
use native.Mathlib.Omega.{arith}
use Rattle.line_writing.proofs.writing.write_ok.Goals as goal
use Rattle.line_writing.proofs.writing.write_ok.Goals.{After-slice_known-3-1}

-- there is room for the end of the line
room : (c : After-slice_known-3-1) → 2 + length (joined_map (spaced 16) c.args.answer.now) < length c.args.out.now
room c = omega (arith, c.write_numbers-k.ensures.writes.long, c.write_numbers-k.ensures.upper_bound)

pub write_numbers-k-requires : goal.write_numbers-k-requires
write_numbers-k-requires c = rw (left_behind c.write_word-word.ensures) (omega (arith, c.write_word-word.ensures.long))

pub overflow_add-result : goal.overflow_add-result
overflow_add-result c = record { fits = omega (arith, end_inside c.write_word-word.ensures c.write_numbers-k.ensures.writes (room c)) }

pub overflow_add-at : goal.overflow_add-at
overflow_add-at c = record { fits = omega (arith, overflow_add-result c) }

pub bounds-out-at : goal.bounds-out-at
bounds-out-at c = end_room c.write_word-word.ensures c.write_numbers-k.ensures.writes (room c)

pub returns : goal.returns
unfolding ok_line
returns c = whole-line c.write_word-word.ensures c.write_numbers-k.ensures.writes (room c)

pub shape_of-out : goal.shape_of-out
shape_of-out c = written_same (returns c)
