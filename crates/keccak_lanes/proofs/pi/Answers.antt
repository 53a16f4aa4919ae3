use Prim.Native.Nat.{ℕ}
use native.Mathlib.Omega.{arith}
use mathlib.Core.Path.{ap}
use lib.ListN.{get_or}
use Rattle.keccak_lanes.proofs.TableLaws.{sources, source}
use Rattle.keccak_f.specs.Permutation.{lanes, pi}
use Rattle.keccak_f.specs.Tabulate.{fill_more, fill_stop}
use Rattle.keccak_lanes.proofs.pi.Goals as goal

pub loop-i-preserved : goal.loop-i-preserved
unfolding sources
loop-i-preserved c =
    fill_more _ (omega arith) (ap (λ (j : ℕ). get_or c.args.a.now j 0) (source c.loop-i.i (omega arith))) c.loop-i.invariant

pub returns : goal.returns
unfolding pi lanes
returns c = fill_stop (omega arith) c.loop-i.invariant
