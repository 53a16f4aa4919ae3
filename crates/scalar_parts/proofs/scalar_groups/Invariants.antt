-- `scalar_parts::scalar_groups` meets its contract, by the laws of a walk over records.
use Prim.Native.Nat.{◌-◌}
use lib.ListN.{length}
use Rattle.lists.specs.Lists.{all}
use Rattle.soundness.specs.Scalars.{scalar_group}
use Rattle.table.specs.Layout.{groups}
use Rattle.sound_parts.proofs.Walks.{Through}
use Rattle.scalar_parts.proofs.scalar_groups.Given as goal

abbrev pub invariant-loop-i : goal.invariant-loop-i
invariant-loop-i l = Through (all scalar_group) groups l.part l.i

abbrev pub decreases-loop-i : goal.decreases-loop-i
decreases-loop-i l = length l.part - l.i
