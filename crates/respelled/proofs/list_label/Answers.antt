-- `list_label`: none for a label that is accepted, those of one that is refused as 14.
use native.Mathlib.Omega.{arith}
use mathlib.Core.Path.{◌∙◌}
use mathlib.Core.List.{[]}
use Rattle.respelled.proofs.ListLaws.{label_accepted, label_refused, label-passes, label_14}
use Rattle.respelled.proofs.list_label.Goals as goal

pub shape_of-work-then-number-ne14 : goal.shape_of-work-then-number-ne14
shape_of-work-then-number-ne14 c = c.judge_input-judged.ensures.same-work

pub returns-then-number-ne14 : goal.returns-then-number-ne14
returns-then-number-ne14 c =
    label_refused _ _ _ _ _ _ _ _ c.requires c.judge_input-judged.result c.judge_input-judged.ensures _ c.in-Err.is _ c.number-number.ensures c.if-number-ne14.true

pub list_refused-entries-requires : goal.list_refused-entries-requires
list_refused-entries-requires c =
    let p = c.requires in
    let j = c.judge_input-judged.ensures in
    record { laid = p.laid; least_work_in_bounds = (omega (arith, p.enough, j.same-work), p.short); passes = label-passes _ _ [] _ _ _ _ _ p c.judge_input-judged.result j _ c.in-Err.is _ c.number-number.ensures c.if-number-ne14.false }

pub shape_of-work-in-Ok : goal.shape_of-work-in-Ok
shape_of-work-in-Ok c = c.judge_input-judged.ensures.same-work

pub returns-in-Ok : goal.returns-in-Ok
returns-in-Ok c = label_accepted _ _ _ _ _ _ _ _ c.requires c.judge_input-judged.result c.judge_input-judged.ensures _ _ c.in-Ok.is

pub shape_of-list : goal.shape_of-list
shape_of-list c = c.list_refused-entries.ensures.holds.same

pub shape_of-work-else-number-ne14 : goal.shape_of-work-else-number-ne14
shape_of-work-else-number-ne14 c = c.list_refused-entries.ensures.same-work ∙ c.judge_input-judged.ensures.same-work

pub returns-else-number-ne14 : goal.returns-else-number-ne14
returns-else-number-ne14 c =
    label_14 _ _ _ _ _ _ _ _ c.requires c.judge_input-judged.result c.judge_input-judged.ensures _ c.in-Err.is _ c.number-number.ensures c.if-number-ne14.false _ _ _ c.list_refused-entries.ensures
