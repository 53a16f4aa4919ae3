-- `arrange`: the classes of the text, and then both sorted by them.
use Rattle.full_decomposition.proofs.Placing.{arranged}
use Rattle.full_decomposition.proofs.arrange.Goals as goal

pub returns : goal.returns
returns c = let o = c.order in arranged _ _ _ _ _ c.put_classes.ensures o.ensures.0 o.ensures.1
