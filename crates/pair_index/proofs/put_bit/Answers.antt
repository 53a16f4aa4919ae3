-- `put_bit` meets its contract: the bits stand in front.
use Prim.Native.Nat.{◌≤◌}
use native.Mathlib.Omega.{arith}
use mathlib.Core.Path.{sym}
use lib.ListN.{length}
use lib.Seq.{length-take-le}
use Rattle.pair_index.proofs.Bits.{bit_put}
use Rattle.pair_index.proofs.put_bit.Goals as goal

pub slice_bounds-put-end-2 : goal.slice_bounds-put-end-2
slice_bounds-put-end-2 c =
    let h : 1495 ≤ length c.args.unpaired.now = omega (arith, c.requires.0) in
    sym (length-take-le 1495 c.args.unpaired.now h)

pub put-requires : goal.put-requires
put-requires c =
    let h : 1495 ≤ length c.args.unpaired.now = omega (arith, c.requires.0) in
    rw (length-take-le 1495 c.args.unpaired.now h) c.requires.1

pub returns : goal.returns
returns c = bit_put _ _ _ c.requires.0 c.put.ensures
