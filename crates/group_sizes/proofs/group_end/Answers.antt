-- `group_sizes::group_end` meets its contract: a list that is due is measured.
use native.Mathlib.Omega.{arith}
use Rattle.std.proofs.Common.{sym, ◌∙◌}
use Rattle.table.proofs.ListSizes.{list-room}
use Rattle.group_sizes.proofs.GroupLaws.{end_listed, end_missing, end_plain}
use Rattle.group_sizes.proofs.group_end.Goals as goal

pub returns-then-not-listed : goal.returns-then-not-listed
returns-then-not-listed c = end_plain _ _ c.args.listed c.if-not-listed.true

pub overflow_add-result : goal.overflow_add-result
overflow_add-result c =
    omega (arith, list-room c.args.rest.now c.args.at _ (sym c.in_ok-size.was ∙ c.list_size.ensures) c.requires)

pub returns : goal.returns
returns c = end_listed c.args.rest.now c.args.at c.args.listed _ c.if-not-listed.false (sym c.in_ok-size.was ∙ c.list_size.ensures)

pub returns-in_err-size : goal.returns-in_err-size
returns-in_err-size c =
    rw c.from_residual.ensures (end_missing c.args.rest.now c.args.at c.args.listed c.if-not-listed.false (sym c.in_err-size.was ∙ c.list_size.ensures))
