-- `trimmed`: what is lent to `length_of` is the input without the blanks at its front, and a front of it is handed back.
use mathlib.Core.Path.{sym, ap, ◌∙◌}
use lib.ListN.{length}
use borrow.Author.Rules.{rules}
use Rattle.trim.specs.Facts.{start_within}
use Rattle.trim.proofs.Loops.{part_long, part_is}
use Rattle.trim.proofs.trimmed.Goals as goal

pub offset_bounds-input-start : goal.offset_bounds-input-start
offset_bounds-input-start c = let h = start_within c.args.input.now in search rules

pub slice_bounds-rest-count : goal.slice_bounds-rest-count
slice_bounds-rest-count c = let h = start_within c.args.input.now in search rules

pub slice_bounds-rest-start : goal.slice_bounds-rest-start
slice_bounds-rest-start c = let h = start_within c.args.input.now in search rules

pub slice_bounds-result-end : goal.slice_bounds-result-end
slice_bounds-result-end c =
    let e = c.start_of-start.ensures in
    let f = c.length_of-n.ensures in
    part_long _ _ _ e f ∙ sym (ap length (part_is _ _ _ e f))

pub returns : goal.returns
returns c = part_is _ _ _ c.start_of-start.ensures c.length_of-n.ensures
