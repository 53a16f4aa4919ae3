-- `head_search::later` meets its contract: a mark whose head is not above c is a place to start from.
use Rattle.head_search.proofs.Searching.{start_mark}
use Rattle.head_search.proofs.later.Goals as goal

pub returns-then-part-at : goal.returns-then-part-at
returns-then-part-at c = start_mark _ _ _ c.requires.1 c.if-at-part.true c.if-part-at.true
