use native.Mathlib.Omega.{arith}
use mathlib.Core.Path.{ap, ◌∙◌}
use mathlib.Core.List.{List}
use Prim.Native.Nat.{ℕ}
use Rattle.keccak_f.specs.Permutation.{lanes, effects, theta}
use Rattle.keccak_f.specs.Tabulate.{tabulate, fill_stop}
use Rattle.keccak_f.specs.Rows.{theta_row}
use Rattle.keccak_f.proofs.Lanes.{theta_at, theta_row_lem, row_filled}
use Rattle.keccak_f.proofs.theta.Goals as goal

pub loop-y-preserved : goal.loop-y-preserved
loop-y-preserved c =
    let d = c.effects-d.result in
    row_filled _ c.loop-y-test.true
    (c.theta_row-r.ensures ∙ ap (λ (r : List ℕ). theta_row r d) c.row.ensures ∙ theta_row_lem c.args.a.now _ (omega arith) (omega arith) d)
    c.put_row.ensures c.loop-y.invariant

pub returns : goal.returns
unfolding theta lanes
returns c =
    fill_stop (omega arith) c.loop-y.invariant
    ∙ ap (λ (d : List ℕ). tabulate 25 (theta_at c.args.a.now d)) (c.effects-d.ensures ∙ ap effects c.parities-c.ensures)
