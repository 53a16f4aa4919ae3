-- `theta`: the first y rows are done.
use Prim.Native.Nat.{◌*◌}
use Rattle.keccak_f.specs.Tabulate.{Filling}
use Rattle.keccak_f.proofs.Lanes.{theta_at}
use Rattle.keccak_f.proofs.theta.Given as goal

abbrev pub invariant-loop-y : goal.invariant-loop-y
invariant-loop-y l = Filling (theta_at l.a l.d) 25 (5 * l.y) l.b
