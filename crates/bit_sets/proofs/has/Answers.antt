-- `bit_sets::has` meets its contract: a shift and a remainder read the bit.
use Rattle.bit_sets.proofs.PutLaws.{has_shifted}
use Rattle.bit_sets.proofs.has.Goals as goal

pub returns : goal.returns
returns c =
    let args' = c.args in
    has_shifted args'.set.now args'.d
