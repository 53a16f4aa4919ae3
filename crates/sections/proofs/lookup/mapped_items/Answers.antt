-- `sections::lookup::mapped_items` meets its contract: the words of the section spell the records of the table.
use Rattle.sections.proofs.SectionLaws.{laid-fits}
use Rattle.sections.proofs.LaidParts.{mapped-found}
use Rattle.sections.proofs.lookup.mapped_items.Goals as goal

pub items_section-requires : goal.items_section-requires
items_section-requires c = ((laid-fits _ _ c.requires).mapped, c.requires.known.mapped)

pub returns : goal.returns
returns c = mapped-found _ _ c.requires _ _ c.items_section.ensures
