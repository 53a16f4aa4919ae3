-- `node_of`: the labels from `start` on are hashed.
use Prim.Native.Nat.{◌-◌, ◌≤◌}
use lib.ListN.{length}
use Rattle.name_node.proofs.Walk.{Hashed}
use Rattle.name_node.proofs.node_of.Given as goal

abbrev pub invariant-loop-start : goal.invariant-loop-start
invariant-loop-start l = (l.start ≤ length l.text) × Hashed l.text l.start l.node.bytes

abbrev pub decreases-loop-start : goal.decreases-loop-start
decreases-loop-start l = l.start
