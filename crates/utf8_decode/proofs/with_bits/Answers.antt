-- `utf8_decode::with_bits` meets its contract.
use native.Mathlib.Omega.{arith}
use Rattle.bits.specs.Fields.{shifted_in}
use Rattle.utf8_decode.proofs.with_bits.Goals as goal

pub returns : goal.returns
returns c = shifted_in 32 15 6 (omega arith) c.requires.0 c.requires.1
