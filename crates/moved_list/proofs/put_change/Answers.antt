-- `put_change`: two words where there is a number, and none else.
use Rattle.moved_list.proofs.EntryLaws.{put_nothing, put_number}
use Rattle.moved_list.proofs.put_change.Goals as goal

pub returns-in-None : goal.returns-in-None
returns-in-None c = put_nothing _ _ _ _ c.in-None.is

pub shape_of-list : goal.shape_of-list
shape_of-list c = c.put_label.ensures.same

pub returns-in-Some : goal.returns-in-Some
returns-in-Some c = put_number _ _ _ _ _ _ _ c.in-Some.is c.put_label.ensures
