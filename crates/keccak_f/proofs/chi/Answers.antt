use native.Mathlib.Omega.{arith}
use mathlib.Core.Path.{ap, ◌∙◌}
use Rattle.keccak_f.specs.Permutation.{lanes, chi}
use Rattle.keccak_f.specs.Tabulate.{fill_stop}
use Rattle.keccak_f.specs.Rows.{chi_row}
use Rattle.keccak_f.proofs.Lanes.{chi_row_lem, row_filled}
use Rattle.keccak_f.proofs.chi.Goals as goal

pub loop-y-preserved : goal.loop-y-preserved
loop-y-preserved c =
    row_filled _ c.loop-y-test.true
    (c.chi_row-r.ensures ∙ ap chi_row c.row.ensures ∙ chi_row_lem c.args.b.now _ (omega arith) (omega arith))
    c.put_row.ensures c.loop-y.invariant

pub returns : goal.returns
unfolding chi lanes
returns c = fill_stop (omega arith) c.loop-y.invariant
