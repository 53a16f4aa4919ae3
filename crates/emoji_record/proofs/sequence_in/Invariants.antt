-- `sequence_in`: after each turn the record is one of those that are left.
use Prim.Native.Nat.{◌-◌}
use lib.ListN.{length}
use Rattle.emoji_record.proofs.Seeking.{Seeking}
use Rattle.emoji_record.proofs.sequence_in.Given as goal

abbrev pub invariant-loop-at : goal.invariant-loop-at
invariant-loop-at l = Seeking l.part l.number l.left l.at

abbrev pub decreases-loop-at : goal.decreases-loop-at
decreases-loop-at l = length l.part - l.at
