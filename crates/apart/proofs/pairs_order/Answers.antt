-- `apart::pairs_order` meets its contract: the test of an entry is that of its kind.
use Rattle.std.proofs.Common.{rules}
use Rattle.apart.proofs.Walks.{pairs}
use Rattle.apart.proofs.pairs_order.Goals as goal

pub returns : goal.returns
returns c = c.entries_order.ensures _ _ pairs (λ entry passes l e. search rules)
