-- `head_search::items_by` meets its contract, by the laws of a search that starts at a mark. The measure is the length of what is left.
use Prim.Native.Nat.{◌-◌}
use lib.ListN.{length}
use Rattle.head_search.specs.Search.{Search}
use Rattle.head_search.proofs.items_by.Given as goal

abbrev pub invariant-loop-i : goal.invariant-loop-i
invariant-loop-i l = Search l.part l.sorted l.c l.i

abbrev pub decreases-loop-i : goal.decreases-loop-i
decreases-loop-i l = length l.part - l.i
