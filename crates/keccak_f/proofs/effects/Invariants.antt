-- `effects`: the first x effects are written.
use Rattle.keccak_f.specs.Permutation.{effect}
use Rattle.keccak_f.specs.Tabulate.{Filling}
use Rattle.keccak_f.proofs.effects.Given as goal

abbrev pub invariant-loop-x : goal.invariant-loop-x
invariant-loop-x l = Filling (effect l.c) 5 l.x l.d
