-- `permute`: the rounds of the constants behind those taken are still to be done.
use mathlib.Core.Path.{◌≡◌}
use lib.ListN.{drop}
use Rattle.keccak_f.specs.Permutation.{rounds, round_constants, keccak_f}
use Rattle.keccak_rounds.proofs.permute.Given as goal

abbrev pub invariant-loop-rc : goal.invariant-loop-rc
invariant-loop-rc l = rounds l.a (drop l.rc-index round_constants) ≡ keccak_f l.initial.a
