-- `firsts::pass_below` meets its contract: records whose first item is below e are passed. The measure is the length of what is left.
use Prim.Native.Nat.{◌-◌, ◌≤◌}
use Rattle.firsts.specs.Firsts.{Passing}
use Rattle.firsts.proofs.pass_below.Given as goal

abbrev pub invariant-loop-at : goal.invariant-loop-at
invariant-loop-at l = Passing l.part l.e (record { place = l.at; number = l.number }) × (l.initial.at ≤ l.at)

abbrev pub decreases-loop-at : goal.decreases-loop-at
decreases-loop-at l = l.stop - l.at
