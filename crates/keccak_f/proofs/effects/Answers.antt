use native.Mathlib.Omega.{arith}
use Rattle.keccak_f.specs.Permutation.{effects}
use Rattle.keccak_f.specs.Tabulate.{fill_stop}
use Rattle.keccak_f.proofs.effects.Goals as goal

pub returns : goal.returns
unfolding effects
returns c = fill_stop (omega arith) c.loop-x.invariant
