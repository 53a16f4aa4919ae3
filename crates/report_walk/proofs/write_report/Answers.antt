-- `write_report`: the words are a table, and its sections are found.
use Rattle.report_walk.proofs.Reporting.{never_fault}
use Rattle.report_walk.proofs.write_report.Goals as goal

pub report_labels-requires : goal.report_labels-requires
report_labels-requires c =
    let p = c.requires in
    let l = c in
    record { laid = l.layout.ensures.found _ c.in-Some.is; least_work_in_bounds = (p.enough, p.short, p.some_name); every = p.labels }

pub returns-in-None : goal.returns-in-None
returns-in-None c = absurd (never_fault _ c.requires.table (c.layout.ensures.fault c.in-None.is))
