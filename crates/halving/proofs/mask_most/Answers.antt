-- `halving::mask_most` meets its contract: a difference that wraps has the upper bits.
use Rattle.std.proofs.Common.{arith}
use Rattle.halving.proofs.Halves.{mask_wrapped}
use Rattle.halving.proofs.mask_most.Goals as goal

pub returns : goal.returns
returns c =
    let s = c in
    mask_wrapped _ _ _ (omega (arith, s.ranges.x)) (omega (arith, s.ranges.c)) (omega arith) c.wrapping_sub_u64.ensures.value
