-- `write_spaced`: a blank, and the digits in the part behind it.
use lib.ListN.{length-set}
use Rattle.buffers.proofs.Written.{written_same}
use Rattle.line_writing.proofs.Numerals.{room-spaced, wrote_spaced}
use native.Mathlib.Omega.{arith}
use Rattle.line_writing.proofs.writing.write_spaced.Goals as goal

pub slice_bounds-write_numeral-count : goal.slice_bounds-write_numeral-count
slice_bounds-write_numeral-count c = simp length-set (omega arith)

pub slice_bounds-write_numeral-start : goal.slice_bounds-write_numeral-start
slice_bounds-write_numeral-start c = simp length-set (omega arith)

pub write_numeral-k-requires : goal.write_numeral-k-requires
write_numeral-k-requires c = room-spaced c.requires

pub returns : goal.returns
returns c = wrote_spaced c.requires c.write_numeral-k.ensures

pub shape_of-out : goal.shape_of-out
shape_of-out c = written_same (returns c)
