-- `wanlopheng_unpack`: the promise of `unpack`, with its values in the fields.
use mathlib.Core.Path.{◌∙◌}
use Rattle.boundary.proofs.wanlopheng_unpack.Goals as goal

pub returns : goal.returns
returns c =
    let u = c.unpack-found.ensures in
    record { values = c.from.ensures ∙ u.values; answer = u.answer }
