-- `wanlopheng_soundness`: the promise of the check, as two numbers.
use mathlib.Core.Path.{◌∙◌, ap}
use Rattle.fields.specs.Fields.{soundness_numbers}
use Rattle.boundary.proofs.wanlopheng_soundness.Goals as goal

pub returns : goal.returns
returns c = c.from.ensures ∙ ap soundness_numbers c.soundness-found.ensures
