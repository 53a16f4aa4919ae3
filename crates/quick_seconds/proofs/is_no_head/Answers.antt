-- `is_no_head` meets its contract: by the filter, or by the section.
use mathlib.Core.Path.{sym, ◌∙◌}
use borrow.Author.Tests.{not-true}
use Rattle.quick_seconds.proofs.SecondLaws.{held_none, head_by_filter, head_not, head_by_section}
use native.Mathlib.Omega.{arith}
use Rattle.quick_seconds.proofs.is_no_head.Goals as goal

pub returns-then-not-may_hold : goal.returns-then-not-may_hold
returns-then-not-may_hold c =
    head_by_filter _ _ _ c.requires.good (held_none _ _ _ c.requires.laid.1 (sym c.may_hold.ensures ∙ not-true _ c.if-not-may_hold.true-raw))

pub bounds-good-256 : goal.bounds-good-256
bounds-good-256 c = omega (arith, c.requires.good.room)

pub returns-then-asked-ge-MOST_ASKED : goal.returns-then-asked-ge-MOST_ASKED
returns-then-asked-ge-MOST_ASKED c = head_not _ _ _ c.requires.good

pub overflow_add-good : goal.overflow_add-good
overflow_add-good c = omega (arith, c.if-asked-ge-MOST_ASKED.false)

pub bounds-good-256-2 : goal.bounds-good-256-2
bounds-good-256-2 c = omega (arith, c.requires.good.room)

pub returns : goal.returns
returns c = head_by_section _ _ _ c.requires.good _ _ c.has_no_record.ensures
