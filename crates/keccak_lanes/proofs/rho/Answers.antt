use native.Mathlib.Omega.{arith}
use mathlib.Core.Path.{sym, ◌∙◌}
use Rattle.keccak_f.specs.Permutation.{lanes, offsets, rho}
use Rattle.keccak_f.specs.Tabulate.{fill_more, fill_stop}
use Rattle.keccak_f.proofs.Lanes.{rho-at}
use Rattle.keccak_lanes.proofs.rho.Goals as goal

pub loop-i-preserved : goal.loop-i-preserved
unfolding offsets
loop-i-preserved c =
    fill_more _ (omega arith) (c.rotate_left.ensures ∙ sym (rho-at c.args.a.now c.loop-i.i (omega arith))) c.loop-i.invariant

pub returns : goal.returns
unfolding rho lanes
returns c = fill_stop (omega arith) c.loop-i.invariant
