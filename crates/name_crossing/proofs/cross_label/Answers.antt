-- `cross_label`: the promise of the call, with its values in the fields.
use mathlib.Core.Path.{◌∙◌, ap}
use Rattle.fields.specs.Fields.{label_numbers}
use Rattle.name_crossing.proofs.cross_label.Goals as goal

pub returns : goal.returns
returns c =
    let u = c.label-found.ensures in
    record { values = c.from.ensures ∙ ap label_numbers u.values; answer = u.answer; cleared = u.cleared }
