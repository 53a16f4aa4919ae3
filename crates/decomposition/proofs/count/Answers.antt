-- `count` meets its contract.
use Rattle.decomposition.proofs.Replacing.{items_ordered, items_count, jamo_number}
use Rattle.decomposition.proofs.count.Goals as goal

pub overflow_sub-result : goal.overflow_sub-result
overflow_sub-result c =
    let b = c in
    items_ordered _ _ _ b.in-Items.is b.requires

pub returns-in-Items : goal.returns-in-Items
returns-in-Items c =
    let b = c in
    items_count _ _ _ b.in-Items.is b.requires

pub returns-in-Jamo : goal.returns-in-Jamo
returns-in-Jamo c = jamo_number _ _ _ c.in-Jamo.is _ c.jamo_count.ensures
