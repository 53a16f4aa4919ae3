-- `rule_5::rule5::is_sequence` meets its contract: no sequence before the start of the search is equal to the items when stripped.
use mathlib.Core.Path.{◌∙◌, ap}
use borrow.Author.Tests.{not-false}
use Rattle.lists.specs.Lists.{any}
use Rattle.records.proofs.LeftLaws.{lists_are}
use Rattle.sound_parts.proofs.Walks.{tail_is}
use Rattle.rule_4.specs.Strips.{same_stripped}
use Rattle.rule_4.proofs.SortedLaws.{avoided_same, sought_steady, sought_any}
use Rattle.rule_5.proofs.rule5.is_sequence.Goals as goal

pub any_same-requires : goal.any_same-requires
any_same-requires c = λ g. rw (lists_are _ c.requires.holds) (c.requires.firsts_known.firsts g)

pub returns-then-not-is_bounded : goal.returns-then-not-is_bounded
returns-then-not-is_bounded c = c.any_same.ensures ∙ ap (any (same_stripped c.args.items.now)) (lists_are _ c.requires.holds)

pub any_same-requires-2 : goal.any_same-requires-2
any_same-requires-2 c =
    let bounded = c.is_bounded.ensures (not-false _ c.if-not-is_bounded.false-raw) in
    let p = rw c.first_of-first.ensures at c.seek-start.ensures in
    rw (tail_is _ _) (sought_steady _ _ (avoided_same _ _ bounded) _ _ p c.args.ix.sorted.emoji c.requires.firsts_known.firsts)

pub returns : goal.returns
returns c =
    let bounded = c.is_bounded.ensures (not-false _ c.if-not-is_bounded.false-raw) in
    let p = rw c.first_of-first.ensures at c.seek-start.ensures in
    (rw (tail_is _ _) at c.any_same-2.ensures) ∙ sought_any _ _ (avoided_same _ _ bounded) _ _ p
