-- `rule_7::rule7::pair_fits` meets its contract.
use mathlib.Core.Path.{sym, ◌∙◌, ap}
use mathlib.Core.Bool.{not}
use borrow.Author.Tests.{not-true, not-false}
use Rattle.rule_7.specs.Pairs.{pair_fits}
use Rattle.rule_7.proofs.rule7.pair_fits.Goals as goal

pub is_pair-requires : goal.is_pair-requires
is_pair-requires c = c.requires

pub returns-then-not-is_pair : goal.returns-then-not-is_pair
unfolding pair_fits
returns-then-not-is_pair c = rw (sym c.is_pair.ensures ∙ not-true _ c.if-not-is_pair.true-raw)

pub returns-then-is_hangul_pair : goal.returns-then-is_hangul_pair
unfolding pair_fits
returns-then-is_hangul_pair c =
    rw (sym c.is_pair.ensures ∙ not-false _ c.if-not-is_pair.false-raw, sym c.is_hangul_pair.ensures ∙ c.if-is_hangul_pair.true)

pub returns : goal.returns
unfolding pair_fits
returns c =
    rw (sym c.is_pair.ensures ∙ not-false _ c.if-not-is_pair.false-raw, sym c.is_hangul_pair.ensures ∙ c.if-is_hangul_pair.false) (ap not c.any_pair.ensures)
