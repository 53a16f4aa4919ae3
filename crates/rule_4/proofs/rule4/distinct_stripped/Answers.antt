use mathlib.Core.Path.{sym, ◌∙◌}
use Rattle.rule_4.specs.Strips.{distinct_stripped}
use Rattle.rule_4.proofs.SortedLaws.{rising-behind, rising_stop, rising_on, rising_end}
use Rattle.rule_4.proofs.StripLaws.{distinct_broken, distinct_later, distinct_none}
use Rattle.rule_4.proofs.rule4.distinct_stripped.Goals as goal

pub any_same-requires : goal.any_same-requires
any_same-requires c = rising-behind distinct_stripped _ _ _ _ _ c.loop-items.invariant c.in-Some.ensures.steps

pub returns-then-any_same : goal.returns-then-any_same
returns-then-any_same c =
    distinct_broken _ _ (sym c.any_same.ensures ∙ c.if-any_same.true) ∙ rising_stop distinct_stripped _ _ _ _ _ c.loop-items.invariant c.in-Some.ensures.steps

pub loop-items-preserved : goal.loop-items-preserved
loop-items-preserved c =
    rising_on distinct_stripped _ _ _ _ _ c.loop-items.invariant c.in-Some.ensures.steps (distinct_later _ _ (sym c.any_same.ensures ∙ c.if-any_same.false))

pub returns : goal.returns
returns c = distinct_none ∙ rising_end distinct_stripped _ _ _ c.loop-items.invariant c.in_default.ensures.steps.0
