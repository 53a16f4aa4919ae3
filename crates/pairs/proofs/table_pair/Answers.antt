-- `table_pair` meets its contract: the section lies within the words, and the index says where to look.
use Rattle.sections.proofs.SectionLaws.{laid-fits}
use Rattle.unpaired.proofs.Places.{part_words}
use Rattle.pairs.proofs.table_pair.Goals as goal

pub of-part-requires : goal.of-part-requires
of-part-requires c = (laid-fits _ _ c.requires.laid).decompositions

pub pair_in-requires : goal.pair_in-requires
pair_in-requires c =
    let p = c.requires in
    record { laid = p.laid; unpaired = p.unpaired; part_value = c.of-part.ensures; bounds = c.bounds_of-s.ensures _ p.unpaired (rw c.of-part.ensures (part_words _ _ p.laid)) }
