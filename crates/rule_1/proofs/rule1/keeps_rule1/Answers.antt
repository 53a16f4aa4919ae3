-- `rule_1::rule1::keeps_rule1` meets its contract: rule 1 is its parts.
use mathlib.Core.Path.{sym, ◌∙◌}
use borrow.Author.Tests.{not-true, not-false}
use Rattle.soundness.specs.Scalars.{scalars_between}
use Rattle.sections.proofs.SectionLaws.{laid-fits, laid_reads}
use Rattle.sound_parts.proofs.ScalarLaws.{rule1_parts}
use Rattle.sound_parts.proofs.Walks.{pairs-all}
use Rattle.rule_1.proofs.rule1.keeps_rule1.Goals as goal

pub scalar_ranges-requires : goal.scalar_ranges-requires
scalar_ranges-requires c = c.requires

pub returns-then-not-scalar_ranges : goal.returns-then-not-scalar_ranges
returns-then-not-scalar_ranges c = rw (rule1_parts _, sym c.scalar_ranges.ensures ∙ not-true _ c.if-not-scalar_ranges.true-raw)

pub scalar_records-requires : goal.scalar_records-requires
scalar_records-requires c = c.requires

pub returns-then-not-scalar_records : goal.returns-then-not-scalar_records
returns-then-not-scalar_records c =
    rw (rule1_parts _, sym c.scalar_ranges.ensures ∙ not-false _ c.if-not-scalar_ranges.false-raw, sym c.scalar_records.ensures ∙ not-true _ c.if-not-scalar_records.true-raw)

pub scalar_others-requires : goal.scalar_others-requires
scalar_others-requires c = c.requires

pub returns-then-not-scalar_others : goal.returns-then-not-scalar_others
returns-then-not-scalar_others c =
    rw (rule1_parts _, sym c.scalar_ranges.ensures ∙ not-false _ c.if-not-scalar_ranges.false-raw, sym c.scalar_records.ensures ∙ not-false _ c.if-not-scalar_records.false-raw, sym c.scalar_others.ensures ∙ not-true _ c.if-not-scalar_others.true-raw)

pub scalar_pairs_of-requires : goal.scalar_pairs_of-requires
scalar_pairs_of-requires c = (laid-fits _ _ c.requires).escape

pub returns-then-not-scalar_pairs_of : goal.returns-then-not-scalar_pairs_of
returns-then-not-scalar_pairs_of c =
    let l = c.requires in
    let escape = c.scalar_pairs_of.ensures ∙ pairs-all scalars_between _ _ (laid_reads _ _ l).escape in
    rw (rule1_parts _, sym c.scalar_ranges.ensures ∙ not-false _ c.if-not-scalar_ranges.false-raw, sym c.scalar_records.ensures ∙ not-false _ c.if-not-scalar_records.false-raw, sym c.scalar_others.ensures ∙ not-false _ c.if-not-scalar_others.false-raw, sym escape ∙ not-true _ c.if-not-scalar_pairs_of.true-raw)

pub scalar_pairs_of-requires-2 : goal.scalar_pairs_of-requires-2
scalar_pairs_of-requires-2 c = (laid-fits _ _ c.requires).quick

pub returns : goal.returns
returns c =
    let l = c.requires in
    let escape = c.scalar_pairs_of.ensures ∙ pairs-all scalars_between _ _ (laid_reads _ _ l).escape in
    rw (rule1_parts _, sym c.scalar_ranges.ensures ∙ not-false _ c.if-not-scalar_ranges.false-raw, sym c.scalar_records.ensures ∙ not-false _ c.if-not-scalar_records.false-raw, sym c.scalar_others.ensures ∙ not-false _ c.if-not-scalar_others.false-raw, sym escape ∙ not-false _ c.if-not-scalar_pairs_of.false-raw)
    (c.scalar_pairs_of-2.ensures ∙ pairs-all scalars_between _ _ (laid_reads _ _ l).quick)
