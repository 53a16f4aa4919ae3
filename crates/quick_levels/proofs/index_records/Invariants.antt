-- `index_records` meets its contract, by the laws of a walk over records. The measure is the length of what is left.
use Rattle.quick_levels.proofs.WalkLaws.{Indexing}
use Prim.Native.Nat.{◌-◌}
use mathlib.Core.Path.{◌≡◌}
use lib.ListN.{length}
use Rattle.quick_levels.proofs.index_records.Given as goal

abbrev pub invariant-loop-i : goal.invariant-loop-i
invariant-loop-i l = Indexing l.part l.off l.slots l.i × (length l.slots ≡ length l.initial.slots)

abbrev pub decreases-loop-i : goal.decreases-loop-i
decreases-loop-i l = length l.part - l.i
