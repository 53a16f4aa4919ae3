-- `note_run` meets its contract, by the laws of a run. The measure is what is left of it.
use Rattle.quick_filters.proofs.FilterLaws.{Running}
use mathlib.Core.Path.{◌≡◌}
use lib.ListN.{length}
use Rattle.quick_filters.proofs.filters.note_run.Given as goal

abbrev pub invariant-loop-c : goal.invariant-loop-c
invariant-loop-c l = Running l.initial.set l.set l.from l.c × (length l.set ≡ length l.initial.set)
