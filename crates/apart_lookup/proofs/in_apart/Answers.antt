-- `apart_lookup::in_apart` meets its contract, by the law of a search by halves.
use Rattle.apart_lookup.proofs.Found.{pairs-none, pairs-some}
use Rattle.apart_lookup.proofs.in_apart.Goals as goal

pub returns-then-r-eq0 : goal.returns-then-r-eq0
returns-then-r-eq0 c = pairs-none _ _ _ c.requires c.rank-r.ensures c.if-r-eq0.true

pub returns : goal.returns
returns c = pairs-some _ _ _ c.requires c.rank-r.ensures c.if-r-eq0.false
