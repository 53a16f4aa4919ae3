-- `pi`: the first i lanes are written.
use Rattle.keccak_f.specs.Tabulate.{Filling}
use Rattle.keccak_f.proofs.Lanes.{pi_at}
use Rattle.keccak_lanes.proofs.pi.Given as goal

abbrev pub invariant-loop-i : goal.invariant-loop-i
invariant-loop-i l = Filling (pi_at l.a) 25 l.i l.b
