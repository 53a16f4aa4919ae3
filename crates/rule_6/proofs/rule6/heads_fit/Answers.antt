use mathlib.Core.Path.{sym, ◌∙◌, ap}
use borrow.Author.Tests.{not-true, not-false}
use Rattle.rule_6.specs.Heads.{heads_fit}
use Rattle.rule_6.proofs.HeadLaws.{head_broken, head_later, heads-none}
use Rattle.rule_6.proofs.rule6.heads_fit.Goals as goal

pub returns-then-not-head_fits : goal.returns-then-not-head_fits
returns-then-not-head_fits c =
    head_broken _ _ _ (sym c.head_fits.ensures ∙ not-true _ c.if-not-head_fits.true-raw) ∙ ap heads_fit (sym c.in-Some.ensures.steps) ∙ sym c.loop-head.invariant

pub loop-head-preserved : goal.loop-head-preserved
loop-head-preserved c =
    c.loop-head.invariant ∙ ap heads_fit c.in-Some.ensures.steps ∙ head_later _ _ _ (sym c.head_fits.ensures ∙ not-false _ c.if-not-head_fits.false-raw)

pub returns : goal.returns
returns c = heads-none ∙ ap heads_fit (sym c.in_default.ensures.steps.0) ∙ sym c.loop-head.invariant
