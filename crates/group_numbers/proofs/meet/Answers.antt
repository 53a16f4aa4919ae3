-- `meet` meets its contract.
use Rattle.group_numbers.proofs.NumberLaws.{met_alone, met_both}
use Rattle.group_numbers.proofs.meet.Goals as goal

pub returns-then-held : goal.returns-then-held
returns-then-held c = met_both _ _ _ _ _ c.number.ensures _ c.if-held.true c.unite.ensures

pub returns-else-held : goal.returns-else-held
returns-else-held c = met_alone _ _ _ _ _ c.number.ensures c.if-held.false
