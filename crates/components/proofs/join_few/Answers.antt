-- `components::join_few` meets its contract: the members are put in order.
use Rattle.components.proofs.JoinLaws.{back_front, front_joins}
use Rattle.components.proofs.join_few.Goals as goal

pub returns : goal.returns
returns c =
    let g = c.gather.ensures in
    front_joins _ _ _ _ g (back_front _ _ _ g.size) _ _ _ c.join_sorted.ensures
