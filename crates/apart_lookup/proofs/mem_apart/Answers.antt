-- `apart_lookup::mem_apart` meets its contract, by the law of a search by halves.
use Rattle.apart_lookup.proofs.Found.{item_none, item_some}
use Rattle.apart_lookup.proofs.mem_apart.Goals as goal

pub returns-then-r-eq0 : goal.returns-then-r-eq0
returns-then-r-eq0 c = item_none _ _ _ c.requires c.rank-r.ensures c.if-r-eq0.true

pub returns : goal.returns
returns c = item_some _ _ _ c.requires c.rank-r.ensures c.if-r-eq0.false
