-- `wanlopheng_utf8_read`: the fields are the values of the reader's answer.
use mathlib.Core.Path.{◌∙◌}
use Rattle.boundary.proofs.utf8_calls.wanlopheng_utf8_read.Goals as goal

pub returns : goal.returns
returns c =
    let u = c.read-found.ensures in
    record { values = c.from.ensures ∙ u.values; answer = u.answer }
