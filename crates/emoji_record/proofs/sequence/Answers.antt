-- `sequence`: what stands in the emoji section stands among the words of the table.
use native.Mathlib.Omega.{arith}
use Rattle.sections.proofs.SectionLaws.{laid-fits}
use Rattle.finder.proofs.FindingLaws.{emoji-sequences}
use Rattle.emoji_record.proofs.Seeking.{section-sequence}
use Rattle.emoji_record.proofs.sequence.Goals as goal

pub of-requires : goal.of-requires
of-requires c = (laid-fits _ _ c.requires).emoji

pub sequence_in-found-requires : goal.sequence_in-found-requires
sequence_in-found-requires c = rw c.of.ensures (emoji-sequences _ _ c.requires)

pub overflow_add-result : goal.overflow_add-result
overflow_add-result c =
    let r = section-sequence _ _ c.requires _ _ (rw c.of.ensures at c.sequence_in-found.ensures) in
    omega (arith, r.fits.ordered, r.fits.inside)

pub overflow_add-result-2 : goal.overflow_add-result-2
overflow_add-result-2 c =
    let r = section-sequence _ _ c.requires _ _ (rw c.of.ensures at c.sequence_in-found.ensures) in
    omega (arith, r.fits.inside)

pub returns : goal.returns
returns c = section-sequence _ _ c.requires _ _ (rw c.of.ensures at c.sequence_in-found.ensures)
