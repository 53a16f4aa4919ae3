-- `digest`: the padding, the permutation and the squeezing one after another.
use Rattle.keccak_sponge.proofs.Taking.{finish}
use Rattle.keccak_sponge.proofs.Keccak256.digest.Goals as goal

pub returns : goal.returns
returns c =
    let p = c in
    finish _ _ _ _ _
    p.xor_byte.ensures
    p.xor_byte-2.ensures
    p.permute-last.ensures
    c.squeeze.ensures
