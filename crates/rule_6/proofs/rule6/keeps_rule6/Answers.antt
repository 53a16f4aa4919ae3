-- `rule_6::rule6::keeps_rule6` meets its contract: the words of the sections spell the decompositions and the classes.
use Rattle.table.specs.Layout.{the_table}
use mathlib.Core.Path.{sym, ◌∙◌}
use borrow.Author.Tests.{not-true, not-false}
use Rattle.sections.proofs.SectionLaws.{laid-fits, laid_reads}
use Rattle.sound_parts.proofs.SectionsHold.{decompositions_left}
use Rattle.sound_parts.specs.Parts.{spares_triple}
use Rattle.sound_parts.proofs.Walks.{triples_all}
use Rattle.rule_2.proofs.PointLaws.{parts_of}
use Rattle.rule_6.proofs.HeadLaws.{rule6_is}
use Rattle.rule_6.proofs.rule6.keeps_rule6.Goals as goal

pub of-part-requires : goal.of-part-requires
of-part-requires c = (laid-fits _ _ c.requires.laid).decompositions

pub returns-then-not-heads_fit : goal.returns-then-not-heads_fit
returns-then-not-heads_fit c =
    rw (
      rule6_is (the_table c.args.words.now) _
          (decompositions_left _ _ c.requires.laid),
      sym (rw c.of-part.ensures at c.heads_fit.ensures) ∙ not-true _ c.if-not-heads_fit.true-raw,
    )

pub of-requires : goal.of-requires
of-requires c = (laid-fits _ _ c.requires.laid).groups

pub decompose_fully-requires : goal.decompose_fully-requires
decompose_fully-requires c =
    let parts = parts_of _ _ c.requires.laid c.requires.words_value in
    record { laid = c.requires.laid; parts_of = rw (c.of-part.ensures, c.of.ensures) parts; words_value = c.requires.words_value }

pub returns-then-not-decompose_fully : goal.returns-then-not-decompose_fully
returns-then-not-decompose_fully c =
    rw (
      rule6_is (the_table c.args.words.now) _
          (decompositions_left _ _ c.requires.laid),
      sym
          (rw c.of-part.ensures at c.heads_fit.ensures) ∙ not-false _ c.if-not-heads_fit.false-raw,
      sym
          c.decompose_fully.ensures ∙ not-true _ c.if-not-decompose_fully.true-raw,
    )

pub classes_spare_of-requires : goal.classes_spare_of-requires
classes_spare_of-requires c = (laid-fits _ _ c.requires.laid).classes

pub returns : goal.returns
returns c =
    rw (
      rule6_is (the_table c.args.words.now) _
          (decompositions_left _ _ c.requires.laid),
      sym
          (rw c.of-part.ensures at c.heads_fit.ensures) ∙ not-false _ c.if-not-heads_fit.false-raw,
      sym
          c.decompose_fully.ensures ∙ not-false _ c.if-not-decompose_fully.false-raw,
    )
    (c.classes_spare_of.ensures ∙ triples_all spares_triple _ _
    (laid_reads _ _ c.requires.laid).classes)
