-- `composes` meets its contract.
use Rattle.lists.specs.Tests.{never}
use mathlib.Core.Bool.{true}
use mathlib.Core.Path.{refl, sym, ◌∙◌}
use borrow.Author.Tests.{not-true}
use Rattle.quick_records.proofs.FitLaws.{composes_clear}
use Rattle.quick_records.proofs.composes.Goals as goal

pub returns-then-not-first-second : goal.returns-then-not-first-second
returns-then-not-first-second c =
    λ e. composes_clear _ _ _ _ _ _ c.requires.1.cleared c.may_hold-first.ensures c.may_hold-second.ensures (not-true _ c.if-not-first-second.true-raw)

pub returns-then-in_quick_check : goal.returns-then-in_quick_check
returns-then-in_quick_check c = λ e. never true refl (sym e)

pub returns : goal.returns
returns c = λ e. record { pair = sym c.may_compose.ensures ∙ e; outside = sym c.in_quick_check.ensures ∙ c.if-in_quick_check.false }
