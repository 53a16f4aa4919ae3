-- `seen_parts::heads_in` meets its contract. What is seen of the part is seen of the section.
use Rattle.seen_parts.proofs.PartLaws.{sees_heads}
use Rattle.seen_parts.proofs.heads_in.Goals as goal

pub returns : goal.returns
returns c = rw (← c.of.ensures) (sees_heads _ _ _ _ c.requires.1 c.heads_order-found.ensures c.told-heads.ensures)
