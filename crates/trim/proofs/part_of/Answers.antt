-- `part_of`: what is lent to `length_of` is the input without the blanks at its front.
use borrow.Author.Rules.{rules}
use Rattle.trim.specs.Facts.{start_within}
use Rattle.trim.proofs.Loops.{part_long}
use Rattle.trim.proofs.part_of.Goals as goal

pub offset_bounds-input-start : goal.offset_bounds-input-start
offset_bounds-input-start c = let h = start_within c.args.input.now in search rules

pub slice_bounds-length_of-count : goal.slice_bounds-length_of-count
slice_bounds-length_of-count c = let h = start_within c.args.input.now in search rules

pub slice_bounds-length_of-start : goal.slice_bounds-length_of-start
slice_bounds-length_of-start c = let h = start_within c.args.input.now in search rules

pub returns : goal.returns
returns c =
    let e = c.start_of-start.ensures in
    record { starts = e; long = part_long _ _ _ e c.length_of-length.ensures }
