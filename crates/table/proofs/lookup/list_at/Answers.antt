-- `table::lookup::list_at` meets its contract: a list is measured from its count on.
use native.Mathlib.Omega.{arith}
use mathlib.Core.Path.{sym, ◌∙◌}
use Rattle.table.proofs.ListSizes.{list-room, list_absent}
use Rattle.table.proofs.lookup.list_at.Goals as goal

pub returns-then-not-listed : goal.returns-then-not-listed
returns-then-not-listed c = list_absent c.args.part.now c.args.at c.args.listed c.if-not-listed.true

pub overflow_add-result-2 : goal.overflow_add-result-2
overflow_add-result-2 c =
    omega (arith, list-room c.args.part.now c.args.at _ (sym c.in_ok-size.was ∙ c.list_size.ensures) c.requires)
