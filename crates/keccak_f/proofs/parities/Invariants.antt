-- `parities`: the first x parities are written.
use Rattle.keccak_f.specs.Permutation.{parity}
use Rattle.keccak_f.specs.Tabulate.{Filling}
use Rattle.keccak_f.proofs.parities.Given as goal

abbrev pub invariant-loop-x : goal.invariant-loop-x
invariant-loop-x l = Filling (parity l.a) 5 l.x l.c
