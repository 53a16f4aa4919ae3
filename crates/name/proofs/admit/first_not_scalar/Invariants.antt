-- `first_not_scalar`: none of the first i codepoints is found.
use Prim.Native.Nat.{◌-◌}
use mathlib.Core.Bool.{not}
use lib.ListN.{length}
use Rattle.scalar.specs.Scalar.{is_scalar}
use Rattle.name.proofs.Admitting.{Search}
use Rattle.name.proofs.admit.first_not_scalar.Given as goal

abbrev pub invariant-loop-i : goal.invariant-loop-i
invariant-loop-i l = Search (λ c. not (is_scalar c)) l.input l.i
