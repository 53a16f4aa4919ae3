-- `list_text`: the groups whose flags the look-alike test left, or none.
use mathlib.Core.Path.{refl}
use borrow.Author.Tests.{not-true, not-false}
use Rattle.std.proofs.Common.{rules}
use Rattle.memo.proofs.MemoLaws.{memo_new}
use Rattle.respelled.proofs.ListLaws.{text_unseen, text_seen}
use Rattle.respelled.proofs.list_text.Goals as goal

pub respellings-seen-requires : goal.respellings-seen-requires
respellings-seen-requires c = (search rules, (c.requires, (memo_new _, refl)))

pub returns-then-not-seen : goal.returns-then-not-seen
returns-then-not-seen c = text_unseen _ _ _ _ c.respellings-seen.ensures.respellings (not-true _ c.if-not-seen.true-raw) _

pub shape_of-list : goal.shape_of-list
shape_of-list c = c.list_flags.ensures.same

pub returns : goal.returns
returns c =
    text_seen _ _ _ _ c.respellings-seen.ensures.respellings (not-false _ c.if-not-seen.false-raw) _ _ _ c.list_flags.ensures
