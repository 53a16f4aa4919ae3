-- `name_bytes::wipe` meets its contract: the word that is read back is a zero.
use Rattle.name_bytes.proofs.Arms.{wiped}
use Rattle.name_bytes.proofs.wipe.Goals as goal

pub returns : goal.returns
returns c = wiped _ _ c.args.i c.clear.ensures c.requires
