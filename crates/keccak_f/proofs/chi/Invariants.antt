-- `chi`: the first y rows are done.
use Prim.Native.Nat.{◌*◌}
use Rattle.keccak_f.specs.Tabulate.{Filling}
use Rattle.keccak_f.proofs.Lanes.{chi_at}
use Rattle.keccak_f.proofs.chi.Given as goal

abbrev pub invariant-loop-y : goal.invariant-loop-y
invariant-loop-y l = Filling (chi_at l.b) 25 (5 * l.y) l.a
