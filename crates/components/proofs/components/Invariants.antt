-- `components::components` meets its contract, by the laws of a walk over two lists of members.
use Prim.Native.Nat.{◌+◌}
use lib.ListN.{length}
use Rattle.table.specs.GroupPart.{groups_in}
use Rattle.components.proofs.JoinLaws.{JoinWalk}
use Rattle.components.proofs.components.Given as goal

abbrev pub invariant-loop-a : goal.invariant-loop-a
invariant-loop-a l = JoinWalk (groups_in l.part) l.fn.a l.fn.b l.k l.a l.b

abbrev pub decreases-loop-a : goal.decreases-loop-a
decreases-loop-a l = length l.a + length l.b
