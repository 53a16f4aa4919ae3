-- `unite` meets its contract.
use Rattle.group_numbers.proofs.NumberLaws.{unite_new, unite_old}
use Rattle.group_numbers.proofs.unite.Goals as goal

pub returns-then-a-b : goal.returns-then-a-b
returns-then-a-b c =
    let p = c.requires in
    unite_new _ _ _ p.numbers p.nonzero.0 p.nonzero.1 _ c.relabel.ensures

pub returns-else-a-b : goal.returns-else-a-b
returns-else-a-b c =
    let p = c.requires in
    unite_old _ _ _ p.numbers p.nonzero.0 p.nonzero.1 c.if-a-b.false
