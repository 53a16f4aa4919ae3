-- `lift_record` meets its contract.
use Rattle.quick_levels.proofs.WalkLaws.{record_up, record_not}
use Rattle.quick_levels.proofs.lift_record.Goals as goal

pub returns-then-first-last : goal.returns-then-first-last
returns-then-first-last c =
    record_up _ _ _ _ _ c.requires.le_n.0 c.requires.le_n.1 c.requires.le_n.2 _ _ c.may_hold-first.ensures c.may_hold-last.ensures _ c.if-first-last.true c.note.ensures

pub returns : goal.returns
returns c =
    record_not _ _ _ _ _ c.requires.le_n.0 c.requires.le_n.1 c.requires.le_n.2 _ _ c.may_hold-first.ensures c.may_hold-last.ensures c.if-first-last.false
