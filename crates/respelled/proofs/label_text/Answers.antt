-- `label_text`: the tokens in normal form, and their text alone.
use native.Mathlib.Omega.{arith}
use mathlib.Core.Path.{refl, sym, ◌∙◌}
use Rattle.respelled.proofs.ListLaws.{not_disallowed, worked_few, text_stands}
use Rattle.respelled.proofs.label_text.Goals as goal

pub index_pairs-requires : goal.index_pairs-requires
index_pairs-requires c = record { laid = c.requires.laid; unpaired_value = refl }

pub slice_bounds-normalise-end : goal.slice_bounds-normalise-end
slice_bounds-normalise-end c = sym c.index_pairs.ensures.size

pub normalise-n-requires : goal.normalise-n-requires
normalise-n-requires c =
    let p = c.requires in
    let s = c.scan-scanned.ensures in
    record { laid = p.laid; unpaired = c.index_pairs.ensures; least_work_in_bounds = (omega (arith, p.least_work_in_bounds.0, s.same), worked_few _ _ p.passes _ _ _ s _ c.in-Ok.is) }

pub text_alone-requires : goal.text_alone-requires
text_alone-requires c =
    let p = c.requires in
    let s = c.scan-scanned.ensures in
    let n = c.normalise-n.ensures.normal_cells in
    record { least_work_in_bounds = omega (arith, p.least_work_in_bounds.0, s.same, n.same); n_le_most_worked = omega (arith, n.few, worked_few _ _ p.passes _ _ _ s _ c.in-Ok.is) }

pub shape_of-w-in-Err : goal.shape_of-w-in-Err
shape_of-w-in-Err c = c.scan-scanned.ensures.same

pub returns-in-Err : goal.returns-in-Err
returns-in-Err c = absurd (not_disallowed _ _ c.requires.passes _ _ _ c.scan-scanned.ensures _ c.in-Err.is)

pub shape_of-w-in-Ok : goal.shape_of-w-in-Ok
shape_of-w-in-Ok c = c.text_alone.ensures.same ∙ (c.normalise-n.ensures.normal_cells.same ∙ c.scan-scanned.ensures.same)

pub returns-in-Ok : goal.returns-in-Ok
returns-in-Ok c =
    text_stands _ _ c.requires.passes _ _ _ c.scan-scanned.ensures _ c.in-Ok.is _ _ c.normalise-n.ensures.normal_cells _ _ c.text_alone.ensures
