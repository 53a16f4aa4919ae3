-- `heads::pass_run` meets its contract, by the laws of a run. The measure is what is left up to `stop`.
use Prim.Native.Nat.{◌-◌}
use Rattle.heads.proofs.Passing.{Run}
use Rattle.heads.proofs.pass_run.Given as goal

abbrev pub invariant-loop-at : goal.invariant-loop-at
invariant-loop-at l = Run l.part l.n (record { at = l.initial.at; floor = l.initial.floor; rising = l.initial.rising }) l.at l.floor l.rising

abbrev pub decreases-loop-at : goal.decreases-loop-at
decreases-loop-at l = l.stop - l.at
