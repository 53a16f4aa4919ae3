-- `seen_parts::pairs_in` meets its contract. What is seen of the part is seen of the section.
use Rattle.group_sizes.proofs.ApartLaws.{sees_order}
use Rattle.seen_parts.proofs.pairs_in.Goals as goal

pub returns : goal.returns
returns c = rw (← c.of.ensures) (sees_order _ _ c.pairs_order.result _ c.pairs_order.ensures c.told.ensures)
