-- `rule8::record_passes` meets its contract.
use mathlib.Core.Path.{sym, ◌∙◌}
use borrow.Author.Tests.{not-true, not-false}
use Rattle.second_items.proofs.ItemLaws.{held_long}
use Rattle.passing_records.proofs.RecordLaws.{head_fails, held_passes, second_decides}
use Rattle.passing_records.proofs.record_passes.Goals as goal

pub returns-then-not-passes : goal.returns-then-not-passes
returns-then-not-passes c =
    record { is = head_fails _ _ _ (sym c.passes.ensures.is ∙ not-true _ c.if-not-passes.true-raw); unpaired = c.passes.ensures.unpaired }

pub returns-then-second_held : goal.returns-then-second_held
returns-then-second_held c =
    record { is = held_passes _ _ _ (sym c.passes.ensures.is ∙ not-false _ c.if-not-passes.false-raw) (sym c.second_held.ensures ∙ c.if-second_held.true); unpaired = c.passes.ensures.unpaired }

pub bounds-items-1 : goal.bounds-items-1
bounds-items-1 c = held_long _ _ _ (sym c.second_held.ensures ∙ c.if-second_held.false)

pub returns : goal.returns
returns c =
    record { is = second_decides _ _ _ _ (sym c.passes.ensures.is ∙ not-false _ c.if-not-passes.false-raw) (sym c.second_held.ensures ∙ c.if-second_held.false) c.passes-2.ensures.is; unpaired = c.passes-2.ensures.unpaired }
