-- `cross_name`: the promise of the call, with its values in the fields.
use mathlib.Core.Path.{◌∙◌}
use Rattle.name_crossing.proofs.cross_name.Goals as goal

pub returns : goal.returns
returns c =
    let u = c.name-found.ensures in
    record { values = c.from.ensures ∙ u.values; answer = u.answer; cleared = u.cleared }
