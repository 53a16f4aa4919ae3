-- `sound_rounds::starts::put_groups` meets its contract, by the laws of a walk over records.
use Prim.Native.Nat.{◌-◌}
use lib.ListN.{length}
use Rattle.sound_choices.proofs.WalkLaws.{GroupsPut}
use Rattle.sound_rounds.proofs.starts.put_groups.Given as goal

abbrev pub invariant-loop-i : goal.invariant-loop-i
invariant-loop-i l = GroupsPut l.gs l.base l.initial.set l.set l.i

abbrev pub decreases-loop-i : goal.decreases-loop-i
decreases-loop-i l = length l.gs - l.i
