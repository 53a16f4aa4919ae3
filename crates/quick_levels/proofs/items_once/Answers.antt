-- `items_once` meets its contract.
use Rattle.quick_levels.proofs.items_once.Goals as goal

pub returns : goal.returns
returns c = λ e. (c.index_records.ensures e).once
