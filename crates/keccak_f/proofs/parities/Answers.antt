use native.Mathlib.Omega.{arith}
use Rattle.keccak_f.proofs.Lanes.{column}
use Rattle.keccak_f.specs.Permutation.{parities}
use Rattle.keccak_f.specs.Tabulate.{fill_more, fill_stop}
use Rattle.keccak_f.proofs.parities.Goals as goal

pub loop-x-preserved : goal.loop-x-preserved
loop-x-preserved c = fill_more _ c.loop-x-test.true (column c.args.a.now c.loop-x.x c.loop-x-test.true) c.loop-x.invariant

pub returns : goal.returns
unfolding parities
returns c = fill_stop (omega arith) c.loop-x.invariant
