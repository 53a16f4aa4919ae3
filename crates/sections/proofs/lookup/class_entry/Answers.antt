-- `sections::lookup::class_entry` meets its contract: a section's words spell the table's entries.
use Rattle.sections.proofs.SectionLaws.{laid-fits, laid_reads}
use Rattle.table.proofs.Lookups.{class-found}
use Rattle.sections.proofs.lookup.class_entry.Goals as goal

pub class_section-requires : goal.class_section-requires
class_section-requires c = ((laid-fits _ _ c.requires).classes, c.requires.known.classes)

pub returns : goal.returns
returns c = class-found _ _ _ _ (laid_reads _ _ c.requires).classes c.class_section.ensures
