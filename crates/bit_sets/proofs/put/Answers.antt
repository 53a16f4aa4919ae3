-- `bit_sets::put` meets its contract: the bit of d is set, and no other changes.
use Rattle.bit_sets.proofs.PutLaws.{put_one}
use Rattle.bit_sets.proofs.put.Goals as goal

pub returns : goal.returns
returns c =
    let args' = c.args in
    let pre' = c.requires in
    put_one args'.set.now args'.d pre'
