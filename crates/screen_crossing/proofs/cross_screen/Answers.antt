-- `cross_screen`: the promise of the call, with its values in the fields.
use mathlib.Core.Path.{◌∙◌}
use Rattle.screen_crossing.proofs.cross_screen.Goals as goal

pub returns : goal.returns
returns c =
    let u = c.screen-told.ensures in
    record { values = c.from.ensures ∙ u.values; answer = u.answer; cleared = u.cleared }
