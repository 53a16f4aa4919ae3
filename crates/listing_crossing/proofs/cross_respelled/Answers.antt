-- `cross_respelled`: the promise of the call, with its values in the fields.
use mathlib.Core.Path.{◌∙◌}
use Rattle.listing_crossing.proofs.cross_respelled.Goals as goal

pub returns : goal.returns
returns c =
    let u = c.respelled-told.ensures in
    record { values = c.from.ensures ∙ u.values; answer = u.answer; cleared = u.cleared }
