-- `boundary::group::wanlopheng_group`: the promise of the call, with its values in the fields.
use mathlib.Core.Path.{◌∙◌, ap}
use Rattle.call_fields.specs.GroupFields.{group_numbers}
use Rattle.boundary.proofs.group.wanlopheng_group.Goals as goal

pub returns : goal.returns
returns c = c.from.ensures ∙ ap group_numbers c.group-found.ensures
