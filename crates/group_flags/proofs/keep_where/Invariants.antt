-- `keep_where` meets its contract: where a list tells what the test answers, what is left to be asked says what is kept.
use mathlib.Core.Path.{◌≡◌}
use mathlib.Core.List.{List}
use Prim.Native.Nat.{ℕ}
use lib.ListN.{length}
use Rattle.table.specs.Layout.{most_groups}
use Rattle.group_flags.specs.Flags.{TellsPlaces}
use Rattle.group_flags.proofs.FlagWalks.{KeepWalk}
use Rattle.group_flags.proofs.keep_where.Given as goal

abbrev pub invariant-loop-i : goal.invariant-loop-i
invariant-loop-i g l =
    (others : List ℕ) → length others ≡ most_groups → TellsPlaces (goal.T-post g l.fn.test) others
    → KeepWalk l.clear l.initial.flags others l.flags l.i
