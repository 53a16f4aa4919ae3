-- `sections::lookup::mem_section` meets its contract: sorted or not, the first match is found.
use Rattle.sections.proofs.lookup.mem_section.Goals as goal

pub mem_apart-requires : goal.mem_apart-requires
mem_apart-requires c = rw c.of-part.ensures (c.requires.1 c.if-sorted.true)
