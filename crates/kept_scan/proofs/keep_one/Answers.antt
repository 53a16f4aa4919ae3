-- `keep_one` meets its contract: each case of the step at one codepoint is kept or given up.
use Rattle.scanning.proofs.Steps.{one_items}
use Rattle.kept_scan.proofs.Stepping.{one-valid, one-mapped, one-ignored, step_given}
use Rattle.kept_scan.proofs.keep_one.Goals as goal

pub keep_items-requires : goal.keep_items-requires
keep_items-requires c =
    let d = c in
    let p = d.requires in
    record { laid = p.laid; least_work_in_bounds = (p.least_work_in_bounds, one_items _ _ _ _ d.alone-found.ensures _ d.in-Mapped.is) }

pub returns-in-Valid : goal.returns-in-Valid
returns-in-Valid c =
    let e = c in
    one-valid _ _ _ _ _ e.alone-found.ensures _ _ e.in-Valid.is _ _ c.keep_text.ensures

pub returns-in-Mapped : goal.returns-in-Mapped
returns-in-Mapped c =
    let e = c in
    one-mapped _ _ _ _ _ e.alone-found.ensures _ _ _ e.in-Mapped.is _ _ c.keep_items.ensures

pub returns-in-Ignored : goal.returns-in-Ignored
returns-in-Ignored c = one-ignored _ _ _ _ _ c.alone-found.ensures _ _ c.in-Ignored.is

pub returns-in-Disallowed : goal.returns-in-Disallowed
returns-in-Disallowed c = step_given _ _ _ _
