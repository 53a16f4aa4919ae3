-- `wanlopheng_emoji`: the promise of the call, with its values in the fields.
use mathlib.Core.Path.{◌∙◌}
use Rattle.boundary.proofs.emoji.wanlopheng_emoji.Goals as goal

pub returns : goal.returns
returns c = c.from.ensures ∙ c.which_emoji-found.ensures
