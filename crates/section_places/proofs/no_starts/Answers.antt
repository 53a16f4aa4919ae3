-- `section_places::no_starts` meets its contract. Every mark stands at the start.
use Rattle.section_places.proofs.no_starts.Goals as goal

pub returns : goal.returns
returns c = rw c.no_marks-none.ensures
