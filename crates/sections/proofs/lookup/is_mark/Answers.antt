-- `sections::lookup::is_mark` meets its contract: a section's words spell the table's entries.
use mathlib.Core.Path.{◌∙◌}
use Rattle.sections.proofs.SectionLaws.{laid-fits, laid_reads}
use Rattle.table.proofs.Lookups.{pairs-ranges}
use Rattle.sections.proofs.lookup.is_mark.Goals as goal

pub in_section-requires : goal.in_section-requires
in_section-requires c = ((laid-fits _ _ c.requires).marks, c.requires.known.marks)

pub returns : goal.returns
returns c = c.in_section.ensures ∙ pairs-ranges _ _ _ (laid_reads _ _ c.requires).marks
