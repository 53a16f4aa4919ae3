-- `seen_sections::found_of` meets its contract. Each place stays, beside what is found.
use Rattle.seen_sections.proofs.found_of.Goals as goal

pub returns : goal.returns
returns c = rw (c.starts_of.ensures, c.sorted_of.ensures)
