-- `keccak256`: the digest of a fresh sponge that took the slice.
use mathlib.Core.Path.{ap, ◌∙◌}
use Rattle.keccak_sponge.specs.declared.Keccak256.{Keccak256}
use Rattle.keccak_sponge.specs.State.{absorbed, digested}
use Rattle.keccak.specs.Promise.{whole}
use Rattle.keccak.proofs.AllBytes.{all-bytes}
use Rattle.keccak.proofs.keccak256.Goals as goal

pub returns : goal.returns
returns c =
    let a = c in
    let m = a.args.bytes.now in
    c.digest.ensures
    ∙ ap digested (a.absorb-taken.ensures ∙ ap (λ (k : Keccak256). absorbed k m) a.new.ensures)
    ∙ whole m (all-bytes m (λ i. (a.type_inv.bytes i).fits))
