use Prim.Native.Nat.{◌*◌, ◌/◌, ◌%◌, ◌^◌}
use native.Mathlib.Omega.{arith}
use mathlib.Core.Path.{refl}
use lib.ListN.{get_or}
use lib.Bits.{and_mask, mask_lt}
use Rattle.keccak_f.specs.Tabulate.{fill_start, fill_more, fill_stop}
use Rattle.keccak_bytes.specs.Sponge.{squeezed}
use Rattle.keccak_bytes.proofs.squeeze.Goals as goal

pub loop-i-init : goal.loop-i-init
loop-i-init c = fill_start _ refl

pub overflow_cast-bytes : goal.overflow_cast-bytes
overflow_cast-bytes c = record { fits = mask_lt (get_or c.args.lanes.now (c.loop-i.i / 8) 0 / 2 ^ (8 * (c.loop-i.i % 8))) 8 }

pub loop-i-preserved : goal.loop-i-preserved
loop-i-preserved c = fill_more _ (omega arith) (and_mask _ 8) c.loop-i.invariant

pub returns : goal.returns
unfolding squeezed
returns c = fill_stop (omega arith) c.loop-i.invariant
