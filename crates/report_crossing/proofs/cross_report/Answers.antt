-- `cross_report`: the promise of the call, with its values in the fields.
use mathlib.Core.Path.{◌∙◌}
use Rattle.report_crossing.proofs.cross_report.Goals as goal

pub returns : goal.returns
returns c =
    let u = c.report-told.ensures in
    record { values = c.from.ensures ∙ u.values; bytes = u.bytes; cleared = u.cleared }
