-- `rule_1::rule1::scalar_records` meets its contract: the words of each section spell its records.
use Prim.Native.Nat.{ℕ}
use mathlib.Core.Path.{sym, ◌∙◌, ap}
use mathlib.Core.List.{List}
use borrow.Author.Tests.{not-true, not-false}
use Rattle.lists.specs.Lists.{all}
use Rattle.table.specs.Table.{Headed}
use Rattle.scalar.specs.Scalar.{is_scalar}
use Rattle.soundness.specs.Scalars.{scalar_headed}
use Rattle.sound_parts.specs.Parts.{records_scalar}
use Rattle.sections.proofs.SectionLaws.{laid-fits}
use Rattle.sections.proofs.LaidParts.{laid-excluded}
use Rattle.sound_parts.proofs.SectionsHold.{mapped_hold, mapped_are, decompositions_hold, decompositions_are, emoji_hold, emoji_are}
use Rattle.rule_1.proofs.rule1.scalar_records.Goals as goal

pub scalar_headed_of-requires : goal.scalar_headed_of-requires
scalar_headed_of-requires c = record { fits = (laid-fits _ _ c.requires).mapped; holds = mapped_hold _ _ c.requires }

pub returns-then-not-scalar_headed_of : goal.returns-then-not-scalar_headed_of
unfolding records_scalar
returns-then-not-scalar_headed_of c =
    rw (sym (ap (λ (rs : List Headed). scalar_headed rs) (mapped_are _ _ c.requires)) ∙ sym c.scalar_headed_of.ensures ∙ not-true _ c.if-not-scalar_headed_of.true-raw)

pub scalar_headed_of-requires-2 : goal.scalar_headed_of-requires-2
scalar_headed_of-requires-2 c = record { fits = (laid-fits _ _ c.requires).decompositions; holds = decompositions_hold _ _ c.requires }

pub returns-then-not-scalar_headed_of-2 : goal.returns-then-not-scalar_headed_of-2
unfolding records_scalar
returns-then-not-scalar_headed_of-2 c =
    rw (
      sym (ap (λ (rs : List Headed). scalar_headed rs) (mapped_are _ _ c.requires)) ∙ sym c.scalar_headed_of.ensures ∙ not-false _ c.if-not-scalar_headed_of.false-raw,
      sym (ap (λ (rs : List Headed). scalar_headed rs) (decompositions_are _ _ c.requires)) ∙ sym c.scalar_headed_of-2.ensures ∙ not-true _ c.if-not-scalar_headed_of-2.true-raw,
    )

pub scalar_sequences_of-requires : goal.scalar_sequences_of-requires
scalar_sequences_of-requires c = record { fits = (laid-fits _ _ c.requires).emoji; holds = emoji_hold _ _ c.requires }

pub returns-then-not-scalar_sequences_of : goal.returns-then-not-scalar_sequences_of
unfolding records_scalar
returns-then-not-scalar_sequences_of c =
    rw (
      sym (ap (λ (rs : List Headed). scalar_headed rs) (mapped_are _ _ c.requires)) ∙ sym c.scalar_headed_of.ensures ∙ not-false _ c.if-not-scalar_headed_of.false-raw,
      sym (ap (λ (rs : List Headed). scalar_headed rs) (decompositions_are _ _ c.requires)) ∙ sym c.scalar_headed_of-2.ensures ∙ not-false _ c.if-not-scalar_headed_of-2.false-raw,
      sym (ap (λ (rs : List (List ℕ)). all (all is_scalar) rs) (emoji_are _ _ c.requires)) ∙ sym c.scalar_sequences_of.ensures ∙ not-true _ c.if-not-scalar_sequences_of.true-raw,
    )

pub scalar_excluded-requires : goal.scalar_excluded-requires
scalar_excluded-requires c =
    let x = laid-excluded _ _ c.requires in
    record { some_left = x.some_left; inside = x.fits.inside }

pub returns : goal.returns
unfolding records_scalar
returns c =
    rw (
      sym (ap (λ (rs : List Headed). scalar_headed rs) (mapped_are _ _ c.requires)) ∙ sym c.scalar_headed_of.ensures ∙ not-false _ c.if-not-scalar_headed_of.false-raw,
      sym (ap (λ (rs : List Headed). scalar_headed rs) (decompositions_are _ _ c.requires)) ∙ sym c.scalar_headed_of-2.ensures ∙ not-false _ c.if-not-scalar_headed_of-2.false-raw,
      sym (ap (λ (rs : List (List ℕ)). all (all is_scalar) rs) (emoji_are _ _ c.requires)) ∙ sym c.scalar_sequences_of.ensures ∙ not-false _ c.if-not-scalar_sequences_of.false-raw,
    )
    (c.scalar_excluded.ensures ∙ ap (λ (s : List ℕ). all is_scalar s) (laid-excluded _ _ c.requires).same)
