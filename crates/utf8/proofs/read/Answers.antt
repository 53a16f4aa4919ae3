-- `utf8::read` meets its contract.
use Rattle.utf8.specs.Calls.{read_call}
use Rattle.utf8.proofs.Ends.{finished}
use Rattle.utf8.proofs.read.Goals as goal

pub returns : goal.returns
unfolding read_call
returns c = finished _ _ _ _ _ _ c.read_front-front.ensures c.finish.ensures
