-- `name_bytes::name_bytes` meets its contract: the word that is read back is a zero, so what was found is answered.
use Rattle.name_bytes.proofs.name_bytes.Goals as goal

pub returns-then-left-ne0 : goal.returns-then-left-ne0
returns-then-left-ne0 c = absurd (c.if-left-ne0.true c.wipe-left.ensures.none)
