-- `all_fit` meets its contract: those that are left say whether all fit.
use Prim.Native.Nat.{◌%◌, ◌≤◌}
use mathlib.Core.Path.{◌≡◌}
use lib.ListN.{length}
use Rattle.table.specs.Layout.{the_table}
use Rattle.records.specs.Left.{heads_left}
use Rattle.quick_seconds.specs.Seconds.{Good}
use Rattle.quick_records.proofs.FitLaws.{Decides}
use Rattle.quick_records.proofs.all_fit.Given as goal

abbrev pub invariant-loop-head : goal.invariant-loop-head
invariant-loop-head l =
    Decides (the_table l.words) (heads_left l.head-iterator.part.now)
    × Good (the_table l.words) l.good × (l.k % 2 ≡ 0) × (l.k ≤ length l.set) × (length l.good ≡ length l.initial.good)
