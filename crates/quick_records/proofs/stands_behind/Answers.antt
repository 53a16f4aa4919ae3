-- `stands_behind` meets its contract.
use mathlib.Core.Path.{sym, ◌∙◌}
use borrow.Author.Tests.{not-true}
use Rattle.quick_records.proofs.BehindLaws.{behind_no_head}
use Rattle.quick_records.proofs.stands_behind.Goals as goal

pub returns-then-not-may_hold : goal.returns-then-not-may_hold
returns-then-not-may_hold c = λ e. behind_no_head _ _ _ _ c.requires.1.heads (sym c.may_hold.ensures ∙ not-true _ c.if-not-may_hold.true-raw)
