-- `stand_in_levels` meets its contract.
use Rattle.quick_levels.proofs.WalkLaws.{levels_found}
use Rattle.quick_levels.proofs.stand_in_levels.Goals as goal

pub returns : goal.returns
returns c = levels_found _ _ _ _ _ _ _ _ _ _ _ c.lift.ensures c.lift-2.ensures c.lift-3.ensures
