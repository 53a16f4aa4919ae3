-- `seen_parts::classes_in` meets its contract. What is seen of the part is seen of the section.
use Rattle.group_sizes.proofs.ApartLaws.{sees_order}
use Rattle.seen_parts.proofs.classes_in.Goals as goal

pub returns : goal.returns
returns c = rw (← c.of.ensures) (sees_order _ _ c.triples_order.result _ c.triples_order.ensures c.told.ensures)
