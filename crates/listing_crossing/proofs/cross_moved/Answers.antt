-- `cross_moved`: the promise of the call, with its values in the fields.
use mathlib.Core.Path.{◌∙◌}
use Rattle.listing_crossing.proofs.cross_moved.Goals as goal

pub returns : goal.returns
returns c =
    let u = c.moved-told.ensures in
    record { values = c.from.ensures ∙ u.values; answer = u.answer; cleared = u.cleared }
