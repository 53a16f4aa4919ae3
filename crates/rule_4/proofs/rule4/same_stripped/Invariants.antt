-- `rule_4::rule4::same_stripped` meets its contract, item by item behind the shared start.
use Prim.Native.Nat.{◌-◌}
use lib.ListN.{length}
use Rattle.rule_4.proofs.StripLaws.{Aligned}
use Rattle.rule_4.proofs.rule4.same_stripped.Given as goal

abbrev pub invariant-loop-i : goal.invariant-loop-i
invariant-loop-i l = Aligned l.a l.b l.i l.j

abbrev pub decreases-loop-i : goal.decreases-loop-i
decreases-loop-i l = length l.a - l.i
