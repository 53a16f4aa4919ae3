-- `scanning::take_one` meets its contract: each case of the step at one codepoint is laid down.
use Rattle.scanning.proofs.Steps.{one_items, one-valid, one-mapped, one-ignored, one_disallowed}
use Rattle.scanning.proofs.take_one.Goals as goal

pub put_items-requires : goal.put_items-requires
put_items-requires c =
    let d = c in
    let p = d.requires in
    record { laid = p.laid; least_work_in_bounds = (p.least_work_in_bounds, one_items _ _ _ _ d.alone-found.ensures _ d.in-Mapped.is) }

pub returns-in-Valid : goal.returns-in-Valid
returns-in-Valid c =
    let e = c in
    one-valid _ _ _ _ _ e.alone-found.ensures _ _ e.in-Valid.is _ _ c.put_text.ensures

pub returns-in-Mapped : goal.returns-in-Mapped
returns-in-Mapped c =
    let e = c in
    one-mapped _ _ _ _ _ e.alone-found.ensures _ _ _ e.in-Mapped.is _ _ c.put_items.ensures

pub returns-in-Ignored : goal.returns-in-Ignored
returns-in-Ignored c = one-ignored _ _ _ _ _ c.alone-found.ensures _ _ c.in-Ignored.is

pub returns-in-Disallowed : goal.returns-in-Disallowed
returns-in-Disallowed c = one_disallowed _ _ _ _ _ c.alone-found.ensures _ _ c.in-Disallowed.is
