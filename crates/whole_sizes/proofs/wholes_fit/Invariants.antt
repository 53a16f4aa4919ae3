-- `whole_sizes::wholes_fit` meets its contract. The loop's invariant: the whole part is well formed exactly where the rest of it is. The measure is the rest's length.
use Prim.Native.Nat.{◌≤◌, ◌-◌}
use mathlib.Core.Path.{◌≡◌}
use lib.ListN.{length, drop}
use Rattle.whole_sizes.specs.Wholes.{wholes_fit}
use Rattle.whole_sizes.proofs.wholes_fit.Given as goal

abbrev pub invariant-loop-at : goal.invariant-loop-at
invariant-loop-at l = (l.at ≤ length l.part) × (wholes_fit l.part ≡ wholes_fit (drop l.at l.part))

abbrev pub decreases-loop-at : goal.decreases-loop-at
decreases-loop-at l = length l.part - l.at
