-- `normal_cells::keep_text` meets its contract: the text is ordered and composed where it stands, and moved down.
use mathlib.Core.Path.{refl}
use Rattle.normal_cells.proofs.Moving.{classes-taken, as_many, text-kept}
use Rattle.normal_cells.proofs.keep_text.Goals as goal

pub slice_bounds-ordered_composed-end-2 : goal.slice_bounds-ordered_composed-end-2
slice_bounds-ordered_composed-end-2 c = classes-taken _ _ _ c.requires.least_work_in_bounds.3 refl

pub ordered_composed-r-requires : goal.ordered_composed-r-requires
ordered_composed-r-requires c =
    let s = c.requires in
    let p = s.least_work_in_bounds in
    record { laid = s.laid; unpaired = s.unpaired; text_len = as_many _ _ _ _ p.0 p.1 p.2 p.3 _ refl }

pub returns : goal.returns
returns c =
    let o = c.ordered_composed-r.ensures in
    let p = c.requires.least_work_in_bounds in
    record { text_kept = text-kept _ _ _ _ p.0 p.1 p.2 p.3 _ _ _ o.composed_into _ _ c.move_down.ensures; unpaired_2 = o.unpaired_2 }
