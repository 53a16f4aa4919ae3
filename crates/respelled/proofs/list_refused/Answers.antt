-- `list_refused`: the groups of the text in the work area.
use native.Mathlib.Omega.{arith}
use Rattle.respelled.proofs.ListLaws.{label-listed}
use Rattle.respelled.proofs.list_refused.Goals as goal

pub label_text-m-requires : goal.label_text-m-requires
label_text-m-requires c = record { laid = c.requires.laid; least_work_in_bounds = c.requires.least_work_in_bounds; passes = c.requires.passes }

pub overflow_add-end : goal.overflow_add-end
overflow_add-end c = omega (arith, c.label_text-m.ensures.few)

pub slice_bounds-list_text-start : goal.slice_bounds-list_text-start
slice_bounds-list_text-start c = omega (arith, c.requires.least_work_in_bounds.0, c.label_text-m.ensures.same, c.label_text-m.ensures.few)

pub slice_bounds-list_text-end : goal.slice_bounds-list_text-end
slice_bounds-list_text-end c = omega (arith, c.requires.least_work_in_bounds.0, c.label_text-m.ensures.same, c.label_text-m.ensures.few)

pub list_text-requires : goal.list_text-requires
list_text-requires c = c.requires.laid

pub shape_of-list : goal.shape_of-list
shape_of-list c = c.list_text.ensures.same

pub shape_of-w : goal.shape_of-w
shape_of-w c = c.label_text-m.ensures.same

pub returns : goal.returns
returns c = label-listed _ _ _ _ _ _ _ _ c.requires.passes c.label_text-m.ensures c.list_text.ensures
