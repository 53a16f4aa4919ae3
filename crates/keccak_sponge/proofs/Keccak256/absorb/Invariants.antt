-- `absorb`: the bytes behind those taken are still to be taken.
use Rattle.keccak_sponge.specs.State.{absorbed}
use Rattle.keccak_sponge.proofs.Taking.{Taking}
use Rattle.keccak_sponge.proofs.Keccak256.absorb.Given as goal

abbrev pub invariant-loop-b : goal.invariant-loop-b
invariant-loop-b l = Taking (absorbed l.self l.bytes) l.bytes l.lanes l.fill l.b-index
