-- `xor_byte`: the byte fits its place in the lane.
use Prim.Native.Nat.{ℕ, ◌*◌, ◌/◌, ◌%◌}
use native.Mathlib.Omega.{arith}
use mathlib.Core.Path.{ap}
use lib.ListN.{get_or, set}
use lib.Pow.{shl_exact}
use Rattle.keccak_f.specs.Permutation.{◌⊕◌}
use Rattle.keccak_bytes.specs.XorByte.{xor_byte}
use Rattle.keccak_bytes.proofs.xor_byte.Goals as goal

pub returns : goal.returns
unfolding xor_byte
returns c =
    let s = c.args.lanes.now in
    let k = c.args.place in
    ap (λ (v : ℕ). set s (k / 8) (get_or s (k / 8) 0 ⊕ v)) (shl_exact 8 (8 * (k % 8)) 64 c.ranges.byte.fits (omega arith))
