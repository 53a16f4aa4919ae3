-- `rule_1::rule1::scalar_others` meets its contract: the words of each section spell its entries.
use mathlib.Core.Path.{sym, ◌∙◌, ap}
use mathlib.Core.List.{List}
use borrow.Author.Tests.{not-true, not-false}
use Rattle.lists.specs.Lists.{all}
use Rattle.table.specs.Table.{Group, Whole}
use Rattle.sound_parts.specs.Parts.{others_scalar, scalar_triple, scalar_whole}
use Rattle.soundness.specs.Scalars.{scalar_group}
use Rattle.sections.proofs.SectionLaws.{laid-fits, laid_reads}
use Rattle.sound_parts.proofs.Walks.{triples_all}
use Rattle.sound_parts.proofs.SectionsHold.{groups_hold, groups_are, wholes_hold, wholes_are}
use Rattle.rule_1.proofs.rule1.scalar_others.Goals as goal

pub scalar_classes-requires : goal.scalar_classes-requires
scalar_classes-requires c = (laid-fits _ _ c.requires).classes

pub returns-then-not-scalar_classes : goal.returns-then-not-scalar_classes
unfolding others_scalar
returns-then-not-scalar_classes c =
    rw (sym (triples_all scalar_triple _ _ (laid_reads _ _ c.requires).classes) ∙ sym c.scalar_classes.ensures ∙ not-true _ c.if-not-scalar_classes.true-raw)

pub scalar_groups_of-requires : goal.scalar_groups_of-requires
scalar_groups_of-requires c = record { fits = (laid-fits _ _ c.requires).groups; holds = groups_hold _ _ c.requires }

pub returns-then-not-scalar_groups_of : goal.returns-then-not-scalar_groups_of
unfolding others_scalar
returns-then-not-scalar_groups_of c =
    rw (
      sym (triples_all scalar_triple _ _ (laid_reads _ _ c.requires).classes) ∙ sym c.scalar_classes.ensures ∙ not-false _ c.if-not-scalar_classes.false-raw,
      sym (ap (λ (gs : List Group). all scalar_group gs) (groups_are _ _ c.requires)) ∙ sym c.scalar_groups_of.ensures ∙ not-true _ c.if-not-scalar_groups_of.true-raw,
    )

pub scalar_wholes_of-requires : goal.scalar_wholes_of-requires
scalar_wholes_of-requires c = record { fits = (laid-fits _ _ c.requires).wholes; holds = wholes_hold _ _ c.requires }

pub returns : goal.returns
unfolding others_scalar
returns c =
    rw (
      sym (triples_all scalar_triple _ _ (laid_reads _ _ c.requires).classes) ∙ sym c.scalar_classes.ensures ∙ not-false _ c.if-not-scalar_classes.false-raw,
      sym (ap (λ (gs : List Group). all scalar_group gs) (groups_are _ _ c.requires)) ∙ sym c.scalar_groups_of.ensures ∙ not-false _ c.if-not-scalar_groups_of.false-raw,
    )
    (c.scalar_wholes_of.ensures ∙ ap (λ (ws : List Whole). all scalar_whole ws) (wholes_are _ _ c.requires))
