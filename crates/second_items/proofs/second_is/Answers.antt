-- `second_items::second_is` meets its contract.
use Rattle.second_items.proofs.ItemLaws.{second_short, second_other, second-same}
use Rattle.second_items.proofs.second_is.Goals as goal

pub returns-then-items-lt2 : goal.returns-then-items-lt2
returns-then-items-lt2 c = second_short _ _ _ _ c.if-items-lt2.true

pub returns-then-items-x : goal.returns-then-items-x
returns-then-items-x c = second_other _ _ _ _ c.if-items-x.true

pub returns : goal.returns
returns c = second-same _ _ _ _ _ c.if-items-x.false c.is_pair.ensures
