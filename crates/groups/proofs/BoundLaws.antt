-- No search asks more often than there are groups times places of the text (specs/Bound).
use Rattle.std.specs.Prelude.{ℕ, ◌*◌, ◌≤◌, List, length}
use Rattle.std.proofs.Common.{mul-le-mul, arith}
use Rattle.limits.specs.Limits.{most_input}
use Rattle.table.specs.Table.{Group}
use Rattle.table.specs.Layout.{most_groups}
use Rattle.groups.specs.Groups.{asked}
use Rattle.groups.specs.Bound.{asked_fewer}

-- of a table's groups and a text within the input limit
pub asked_bound : (gs : List Group) (s : List ℕ) → length gs ≤ most_groups → length s ≤ most_input → asked gs s ≤ most_groups * most_input
asked_bound gs s few short = omega (arith, asked_fewer gs s, mul-le-mul few short)
