-- `advance` meets its contract. The measure is the length of what is left.
use Prim.Native.Nat.{◌-◌, ◌%◌, ◌≤◌}
use mathlib.Core.Path.{◌≡◌}
use lib.ListN.{length}
use Rattle.quick_records.proofs.advance.Given as goal

abbrev pub invariant-loop-k : goal.invariant-loop-k
invariant-loop-k l = (l.k % 2 ≡ 0) × (l.k ≤ length l.set)

abbrev pub decreases-loop-k : goal.decreases-loop-k
decreases-loop-k l = length l.set - l.k
