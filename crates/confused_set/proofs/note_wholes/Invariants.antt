-- `note_wholes` meets its contract, by the laws of a walk over the wholes.
use Prim.Native.Nat.{◌-◌}
use lib.ListN.{length}
use Rattle.confused_set.proofs.FilterLaws.{Noting}
use Rattle.confused_set.proofs.note_wholes.Given as goal

abbrev pub invariant-loop-i : goal.invariant-loop-i
invariant-loop-i l = Noting l.part l.initial.set l.set l.i

abbrev pub decreases-loop-i : goal.decreases-loop-i
decreases-loop-i l = length l.part - l.i
