-- `note_heads` meets its contract, by the laws of a walk over records. The measure is the length of what is left.
use Rattle.quick_levels.specs.Walk.{Passed, HeadNoted}
use Prim.Native.Nat.{◌-◌}
use mathlib.Core.Path.{◌≡◌}
use lib.ListN.{length}
use Rattle.quick_levels.proofs.note_heads.Given as goal

abbrev pub invariant-loop-i : goal.invariant-loop-i
invariant-loop-i l = Passed (HeadNoted l.heads) l.part l.i × (length l.heads ≡ length l.initial.heads)

abbrev pub decreases-loop-i : goal.decreases-loop-i
decreases-loop-i l = length l.part - l.i
