-- `sections::lookup::in_section` meets its contract: sorted or not, the first match is found.
use Rattle.sections.proofs.lookup.in_section.Goals as goal

pub in_apart-requires : goal.in_apart-requires
in_apart-requires c = rw c.of-part.ensures (c.requires.1 c.if-sorted.true)
