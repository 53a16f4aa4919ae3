-- `put_group`: the number of a group whose flag is set.
use borrow.Author.Tests.{not-true, not-false}
use Rattle.group_list.proofs.PlaceLaws.{group-none, group_put}
use Rattle.group_list.proofs.put_group.Goals as goal

pub returns-then-not-flag : goal.returns-then-not-flag
returns-then-not-flag c = group-none _ _ _ _ (not-true _ c.if-not-flag.true-raw)

pub shape_of-list : goal.shape_of-list
shape_of-list c = c.put_label.ensures.same

pub returns : goal.returns
returns c = group_put _ _ _ _ _ _ (not-false _ c.if-not-flag.false-raw) c.put_label.ensures
