use mathlib.Core.Path.{sym, ◌∙◌, ap}
use borrow.Author.Tests.{not-true, not-false}
use Rattle.table.specs.Layout.{the_table}
use Rattle.rule_7.specs.Pairs.{pairs_fit}
use Rattle.rule_7.proofs.PairLaws.{pair_broken, pair_later, pairs-none}
use Rattle.rule_7.proofs.rule7.pairs_fit.Goals as goal

pub returns-then-not-pair_fits : goal.returns-then-not-pair_fits
returns-then-not-pair_fits c =
    let t = the_table c.args.words.now in
    pair_broken t _ _ _ (sym c.pair_fits.ensures ∙ not-true _ c.if-not-pair_fits.true-raw) ∙ ap (pairs_fit t) (sym c.in-Some.ensures.steps) ∙ sym c.loop-head.invariant

pub loop-head-preserved : goal.loop-head-preserved
loop-head-preserved c =
    let t = the_table c.args.words.now in
    c.loop-head.invariant ∙ ap (pairs_fit t) c.in-Some.ensures.steps ∙ pair_later t _ _ _ (sym c.pair_fits.ensures ∙ not-false _ c.if-not-pair_fits.false-raw)

pub returns : goal.returns
returns c =
    let t = the_table c.args.words.now in
    pairs-none t ∙ ap (pairs_fit t) (sym c.in_default.ensures.steps.0) ∙ sym c.loop-head.invariant
