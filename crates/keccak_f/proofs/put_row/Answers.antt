-- `put_row`: the row is copied to its place.
use native.Mathlib.Omega.{arith}
use Rattle.keccak_f.proofs.Lanes.{row_put}
use Rattle.keccak_f.proofs.put_row.Goals as goal

pub returns : goal.returns
returns c = row_put c.args.b.now c.args.r _ c.args.i _ c.copy_from_slice.ensures.after (omega arith) (omega arith)
