-- `wanlopheng_utf8_write`: the fields are the values of the writer's answer.
use mathlib.Core.Path.{◌∙◌}
use Rattle.boundary.proofs.utf8_calls.wanlopheng_utf8_write.Goals as goal

pub returns : goal.returns
returns c =
    let u = c.write-found.ensures in
    record { values = c.from.ensures ∙ u.values; answer = u.answer }
