use Rattle.line_writing.proofs.Lines.{numbering_start, numbering_inside, numbering_room, numbering_place, numbering_more, numbering_end, numbering_same}
use native.Mathlib.Omega.{arith}
use Rattle.line_writing.proofs.writing.write_numbers.Goals as goal

pub loop-n-init : goal.loop-n-init
loop-n-init c = numbering_start _ _

pub slice_bounds-write_spaced-count : goal.slice_bounds-write_spaced-count
slice_bounds-write_spaced-count c = numbering_inside c.loop-n.invariant c.requires

pub slice_bounds-write_spaced-start : goal.slice_bounds-write_spaced-start
slice_bounds-write_spaced-start c = slice_bounds-write_spaced-count c

pub write_spaced-k-requires : goal.write_spaced-k-requires
write_spaced-k-requires c = numbering_room c.loop-n.invariant c.requires _ (rw c.from.ensures (c.type_inv.numbers c.loop-n.n-index).fits) (omega arith)

pub overflow_add-at : goal.overflow_add-at
overflow_add-at c =
    record { fits = omega (arith, numbering_place c.loop-n.invariant c.requires _ (rw c.from.ensures (c.type_inv.numbers c.loop-n.n-index).fits) (omega arith) c.from.ensures c.write_spaced-k.ensures) }

pub loop-n-preserved : goal.loop-n-preserved
loop-n-preserved c = numbering_more c.loop-n.invariant c.requires _ (rw c.from.ensures (c.type_inv.numbers c.loop-n.n-index).fits) (omega arith) c.from.ensures c.write_spaced-k.ensures

pub shape_of-out : goal.shape_of-out
shape_of-out c = numbering_same c.loop-n.invariant c.requires

pub returns : goal.returns
returns c =
    let every = numbering_end c.loop-n.invariant c.requires (omega arith) in record { writes = every.0; upper_bound = every.1 }
