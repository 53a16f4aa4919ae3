-- `firsts::seek` meets its contract: behind a mark, records whose first item is below e are passed. The measure is the length of what is
-- left.
use Prim.Native.Nat.{◌-◌}
use lib.ListN.{length}
use Rattle.firsts.specs.Firsts.{Passing}
use Rattle.firsts.proofs.seek.Given as goal

abbrev pub invariant-loop-here : goal.invariant-loop-here
invariant-loop-here l = Passing l.part l.e l.here

abbrev pub decreases-loop-here : goal.decreases-loop-here
decreases-loop-here l = length l.part - l.here.place
