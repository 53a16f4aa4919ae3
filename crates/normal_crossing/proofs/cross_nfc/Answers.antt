-- `cross_nfc`: the promise of `nfc`, with its values in the fields.
use mathlib.Core.Path.{◌∙◌}
use Rattle.normal_crossing.proofs.cross_nfc.Goals as goal

pub returns : goal.returns
returns c =
    let u = c.nfc-found.ensures in
    record { values = c.from.ensures ∙ u.values; answer = u.answer; cleared = u.cleared }
