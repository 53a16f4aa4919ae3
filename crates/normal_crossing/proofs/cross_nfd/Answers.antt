-- `cross_nfd`: the promise of `nfd`, with its values in the fields.
use mathlib.Core.Path.{◌∙◌}
use Rattle.normal_crossing.proofs.cross_nfd.Goals as goal

pub returns : goal.returns
returns c =
    let u = c.nfd-found.ensures in
    record { values = c.from.ensures ∙ u.values; answer = u.answer; cleared = u.cleared }
