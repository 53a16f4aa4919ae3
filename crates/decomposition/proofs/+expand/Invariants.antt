-- The measure is the number of rounds. The loop keeps that the first i items of the single replacement are written, each with one round less.
use Rattle.std.proofs.Common.{◌-◌, ◌≤◌}
use Rattle.table.specs.Layout.{the_table}
use Rattle.decomposition.specs.Rounds.{items_by}
use Rattle.decomposition.proofs.RoundLaws.{Expanding}
use Rattle.decomposition.proofs.+expand.Given as goal

abbrev pub decreases-expand : goal.decreases-expand
decreases-expand l = l.rounds

abbrev pub invariant-loop-i : goal.invariant-loop-i
invariant-loop-i l =
    (l.i ≤ l.n) × Expanding (the_table l.words) (l.rounds - 1) (items_by l.words l.by) l.initial.out l.out l.at l.i l.to
