-- `cross_name_bytes`: the fields are the values of the byte form's answer.
use mathlib.Core.Path.{◌∙◌}
use Rattle.bytes_crossing.proofs.cross_name_bytes.Goals as goal

pub returns : goal.returns
returns c =
    let u = c.name_bytes-found.ensures in
    record { values = c.name_bytes_fields.ensures ∙ u.values; answer = u.answer; cleared = u.cleared }
