-- `sections::lookup::whole_of` meets its contract: the words of the section spell the wholes of the table.
use Rattle.sections.proofs.LaidParts.{wholes_part, whole-found}
use Rattle.sections.proofs.lookup.whole_of.Goals as goal

pub whole_in_of-requires : goal.whole_in_of-requires
whole_in_of-requires c = wholes_part _ _ c.requires

pub returns : goal.returns
returns c = whole-found _ _ c.requires _ _ c.whole_in_of.ensures
