-- `pair_of` meets its contract.
use mathlib.Core.Path.{◌∙◌}
use Rattle.pairs.proofs.Pairs.{pair_hangul, pair-table}
use Rattle.pairs.proofs.pair_of.Goals as goal

pub returns-in-Some : goal.returns-in-Some
returns-in-Some c =
    let p = c.hangul_pair in
    record { is = pair_hangul _ _ _ _ _ p.ensures c.in-Some.is; unpaired = c.requires.unpaired }

pub returns-in-None : goal.returns-in-None
returns-in-None c =
    let p = c.hangul_pair in
    let q = c.table_pair.ensures in
    record { is = q.is ∙ pair-table _ _ _ _ p.ensures c.in-None.is; unpaired = q.unpaired }
