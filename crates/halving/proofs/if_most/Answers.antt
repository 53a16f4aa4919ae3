-- `halving::if_most` meets its contract, by the law of a mask.
use Rattle.std.proofs.Common.{arith}
use Rattle.halving.proofs.Halves.{masked}
use Rattle.halving.proofs.if_most.Goals as goal

pub returns : goal.returns
returns c = masked _ _ _ _ (omega (arith, c.ranges.n)) c.mask_most.ensures
