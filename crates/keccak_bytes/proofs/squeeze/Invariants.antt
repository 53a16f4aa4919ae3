-- `squeeze`: the first i bytes are written.
use Rattle.keccak_f.specs.Tabulate.{Filling}
use Rattle.keccak_bytes.specs.Sponge.{byte_at}
use Rattle.keccak_bytes.proofs.squeeze.Given as goal

abbrev pub invariant-loop-i : goal.invariant-loop-i
invariant-loop-i l = Filling (byte_at l.lanes) 32 l.i l.bytes
