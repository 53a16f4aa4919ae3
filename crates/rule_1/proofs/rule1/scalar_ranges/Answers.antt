-- `rule_1::rule1::scalar_ranges` meets its contract: the words of each section spell its ranges.
use mathlib.Core.Path.{sym, ◌∙◌}
use borrow.Author.Tests.{not-true, not-false}
use Rattle.soundness.specs.Scalars.{scalars_between}
use Rattle.sound_parts.specs.Parts.{ranges_scalar}
use Rattle.sections.proofs.SectionLaws.{laid-fits, laid_reads}
use Rattle.sound_parts.proofs.Walks.{pairs-all}
use Rattle.rule_1.proofs.rule1.scalar_ranges.Goals as goal

pub scalar_pairs_of-requires : goal.scalar_pairs_of-requires
scalar_pairs_of-requires c = (laid-fits _ _ c.requires).valid

pub returns-then-not-scalar_pairs_of : goal.returns-then-not-scalar_pairs_of
unfolding ranges_scalar
returns-then-not-scalar_pairs_of c =
    rw
    (sym (pairs-all scalars_between _ _ (laid_reads _ _ c.requires).valid) ∙ sym c.scalar_pairs_of.ensures ∙ not-true _ c.if-not-scalar_pairs_of.true-raw)

pub scalar_pairs_of-requires-2 : goal.scalar_pairs_of-requires-2
scalar_pairs_of-requires-2 c = (laid-fits _ _ c.requires).ignored

pub returns-then-not-scalar_pairs_of-2 : goal.returns-then-not-scalar_pairs_of-2
unfolding ranges_scalar
returns-then-not-scalar_pairs_of-2 c =
    rw (
      sym (pairs-all scalars_between _ _ (laid_reads _ _ c.requires).valid) ∙ sym c.scalar_pairs_of.ensures ∙ not-false _ c.if-not-scalar_pairs_of.false-raw,
      sym (pairs-all scalars_between _ _ (laid_reads _ _ c.requires).ignored) ∙ sym c.scalar_pairs_of-2.ensures ∙ not-true _ c.if-not-scalar_pairs_of-2.true-raw,
    )

pub scalar_pairs_of-requires-3 : goal.scalar_pairs_of-requires-3
scalar_pairs_of-requires-3 c = (laid-fits _ _ c.requires).fenced

pub returns-then-not-scalar_pairs_of-3 : goal.returns-then-not-scalar_pairs_of-3
unfolding ranges_scalar
returns-then-not-scalar_pairs_of-3 c =
    rw (
      sym (pairs-all scalars_between _ _ (laid_reads _ _ c.requires).valid) ∙ sym c.scalar_pairs_of.ensures ∙ not-false _ c.if-not-scalar_pairs_of.false-raw,
      sym (pairs-all scalars_between _ _ (laid_reads _ _ c.requires).ignored) ∙ sym c.scalar_pairs_of-2.ensures ∙ not-false _ c.if-not-scalar_pairs_of-2.false-raw,
      sym (pairs-all scalars_between _ _ (laid_reads _ _ c.requires).fenced) ∙ sym c.scalar_pairs_of-3.ensures ∙ not-true _ c.if-not-scalar_pairs_of-3.true-raw,
    )

pub scalar_pairs_of-requires-4 : goal.scalar_pairs_of-requires-4
scalar_pairs_of-requires-4 c = (laid-fits _ _ c.requires).marks

pub returns-then-not-scalar_pairs_of-4 : goal.returns-then-not-scalar_pairs_of-4
unfolding ranges_scalar
returns-then-not-scalar_pairs_of-4 c =
    rw (
      sym (pairs-all scalars_between _ _ (laid_reads _ _ c.requires).valid) ∙ sym c.scalar_pairs_of.ensures ∙ not-false _ c.if-not-scalar_pairs_of.false-raw,
      sym (pairs-all scalars_between _ _ (laid_reads _ _ c.requires).ignored) ∙ sym c.scalar_pairs_of-2.ensures ∙ not-false _ c.if-not-scalar_pairs_of-2.false-raw,
      sym (pairs-all scalars_between _ _ (laid_reads _ _ c.requires).fenced) ∙ sym c.scalar_pairs_of-3.ensures ∙ not-false _ c.if-not-scalar_pairs_of-3.false-raw,
      sym (pairs-all scalars_between _ _ (laid_reads _ _ c.requires).marks) ∙ sym c.scalar_pairs_of-4.ensures ∙ not-true _ c.if-not-scalar_pairs_of-4.true-raw,
    )

pub scalar_pairs_of-requires-5 : goal.scalar_pairs_of-requires-5
scalar_pairs_of-requires-5 c = (laid-fits _ _ c.requires).nsm

pub returns : goal.returns
unfolding ranges_scalar
returns c =
    rw (
      sym (pairs-all scalars_between _ _ (laid_reads _ _ c.requires).valid) ∙ sym c.scalar_pairs_of.ensures ∙ not-false _ c.if-not-scalar_pairs_of.false-raw,
      sym (pairs-all scalars_between _ _ (laid_reads _ _ c.requires).ignored) ∙ sym c.scalar_pairs_of-2.ensures ∙ not-false _ c.if-not-scalar_pairs_of-2.false-raw,
      sym (pairs-all scalars_between _ _ (laid_reads _ _ c.requires).fenced) ∙ sym c.scalar_pairs_of-3.ensures ∙ not-false _ c.if-not-scalar_pairs_of-3.false-raw,
      sym (pairs-all scalars_between _ _ (laid_reads _ _ c.requires).marks) ∙ sym c.scalar_pairs_of-4.ensures ∙ not-false _ c.if-not-scalar_pairs_of-4.false-raw,
    )
    (c.scalar_pairs_of-5.ensures ∙ pairs-all scalars_between _ _ (laid_reads _ _ c.requires).nsm)
