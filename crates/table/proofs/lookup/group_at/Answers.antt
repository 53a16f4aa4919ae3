-- `table::lookup::group_at` meets its contract: the pairs stand behind the flags.
use native.Mathlib.Omega.{arith}
use mathlib.Core.Path.{sym, ◌∙◌}
use Rattle.table.proofs.ListSizes.{group_is}
use Rattle.table.proofs.lookup.group_at.Goals as goal
use Rattle.table.proofs.lookup.group_at.Goals.{in-Some, in-None}

pub list_at-list-requires : goal.list_at-list-requires
list_at-list-requires c = rw c.counted-pairs.ensures (omega arith)

pub returns : goal.returns
returns c =
    elim c.match-list.branch [
      | in-Some w ↦ group_is _ _ _ _ _ c.counted-pairs.ensures (w.list-is ∙ sym w.in-Some.is ∙ c.list_at-list.ensures) (rw w.list-is w.next-is)
      | in-None w ↦ group_is _ _ _ _ _ c.counted-pairs.ensures (w.list-is ∙ c.list_at-list.ensures) (rw (w.list-is, w.in-None.is) w.next-is)
    ]
