-- `table::lookup::head_in` meets its contract, by the laws of a search for a head.
use Prim.Native.Nat.{◌-◌}
use lib.ListN.{length}
use Rattle.table.proofs.Searches.{HeadWalk}
use Rattle.table.proofs.lookup.head_in.Given as goal

abbrev pub invariant-loop-i : goal.invariant-loop-i
invariant-loop-i l = HeadWalk l.part l.c l.i

abbrev pub decreases-loop-i : goal.decreases-loop-i
decreases-loop-i l = length l.part - l.i
