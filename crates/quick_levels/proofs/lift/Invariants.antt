-- `lift` meets its contract, by the laws of a walk over records. The measure is the length of what is left.
use Rattle.quick_levels.proofs.WalkLaws.{Lifting}
use Prim.Native.Nat.{◌-◌}
use lib.ListN.{length}
use Rattle.quick_levels.proofs.lift.Given as goal

abbrev pub invariant-loop-i : goal.invariant-loop-i
invariant-loop-i l = Lifting l.part l.from l.initial.to l.to l.any l.i

abbrev pub decreases-loop-i : goal.decreases-loop-i
decreases-loop-i l = length l.part - l.i
