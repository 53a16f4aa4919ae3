-- `utf8::write` meets its contract.
use Rattle.utf8.specs.Calls.{write_call}
use Rattle.utf8.proofs.Ends.{finished}
use Rattle.utf8.proofs.write.Goals as goal

pub returns : goal.returns
unfolding write_call
returns c = finished _ _ _ _ _ _ c.write_front-front.ensures c.finish.ensures
