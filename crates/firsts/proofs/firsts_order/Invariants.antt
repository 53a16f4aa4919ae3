-- `firsts::firsts_order` meets its contract, by the laws of a walk over the section. The measure is the length of what is left.
use Prim.Native.Nat.{◌-◌}
use lib.ListN.{length}
use Rattle.firsts.proofs.Walks.{FirstsPass}
use Rattle.firsts.proofs.firsts_order.Given as goal

abbrev pub invariant-loop-here : goal.invariant-loop-here
invariant-loop-here l = FirstsPass l.part l.here l.last l.floor l.steady l.places l.numbers

abbrev pub decreases-loop-here : goal.decreases-loop-here
decreases-loop-here l = length l.part - l.here.place
