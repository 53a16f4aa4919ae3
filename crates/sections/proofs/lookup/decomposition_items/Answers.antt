-- `sections::lookup::decomposition_items` meets its contract: the words of the section spell the records of the table.
use Rattle.sections.proofs.SectionLaws.{laid-fits}
use Rattle.sections.proofs.LaidParts.{decomposition_found}
use Rattle.sections.proofs.lookup.decomposition_items.Goals as goal

pub items_section-requires : goal.items_section-requires
items_section-requires c = ((laid-fits _ _ c.requires).decompositions, c.requires.known.decompositions)

pub returns : goal.returns
returns c = decomposition_found _ _ c.requires _ _ c.items_section.ensures
