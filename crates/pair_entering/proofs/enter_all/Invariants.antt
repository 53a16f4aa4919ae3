-- `enter_all` meets its contract: the records before `i` are in the index.
use Prim.Native.Nat.{◌-◌}
use mathlib.Core.Path.{◌≡◌}
use lib.ListN.{length}
use Rattle.pair_index.specs.Index.{Entering}
use Rattle.pair_entering.proofs.enter_all.Given as goal

abbrev pub invariant-loop-i : goal.invariant-loop-i
invariant-loop-i l = Entering l.part l.unpaired l.i × (length l.unpaired ≡ length l.initial.unpaired)

abbrev pub decreases-loop-i : goal.decreases-loop-i
decreases-loop-i l = length l.part - l.i
