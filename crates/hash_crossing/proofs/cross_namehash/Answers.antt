-- `cross_namehash`: the promise of the call, with its values in the fields.
use mathlib.Core.Path.{◌∙◌}
use Rattle.hash_crossing.proofs.cross_namehash.Goals as goal

pub returns : goal.returns
returns c =
    let named = c in
    let u = named.namehash-found.ensures in
    record { values = named.from.ensures ∙ u.ends.values; answer = u.ends.answer; cleared = u.ends.cleared; node = u.node }
