-- `sections::lookup::class_section` meets its contract: sorted or not, the first match is found.
use Rattle.sections.proofs.lookup.class_section.Goals as goal

pub class_apart-requires : goal.class_apart-requires
class_apart-requires c = rw c.of-part.ensures (c.requires.1 c.if-sorted.true)
