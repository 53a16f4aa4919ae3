-- `heads::heads_order` meets its contract, by the laws of a walk over a section. The measure is the length of what is left.
use Prim.Native.Nat.{◌-◌}
use lib.ListN.{length}
use Rattle.heads.specs.Walk.{HeadsPass}
use Rattle.heads.proofs.heads_order.Given as goal

abbrev pub invariant-loop-walk : goal.invariant-loop-walk
invariant-loop-walk l = HeadsPass l.part l.most l.walk.at l.walk.floor l.walk.rising l.marks

abbrev pub decreases-loop-walk : goal.decreases-loop-walk
decreases-loop-walk l = length l.part - l.walk.at
