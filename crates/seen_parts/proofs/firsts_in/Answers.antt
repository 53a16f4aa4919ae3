-- `seen_parts::firsts_in` meets its contract. What is seen of the part is seen of the section.
use Rattle.seen_parts.proofs.PartLaws.{sees_firsts}
use Rattle.seen_parts.proofs.firsts_in.Goals as goal

pub returns : goal.returns
returns c = rw (← c.of.ensures) (sees_firsts _ _ _ c.firsts_order-found.ensures c.told-firsts.ensures)
