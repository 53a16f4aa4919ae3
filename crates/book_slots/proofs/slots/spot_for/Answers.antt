-- `spot_for`: the two searches, one after the other.
use Rattle.std.proofs.Common.{rules}
use Rattle.book_slots.proofs.Naming.{spot_either}
use Rattle.book_slots.proofs.slots.spot_for.Goals as goal

pub returns : goal.returns
returns c = spot_either _ _ _ _ _ (λ h. search rules) c.or_else.ensures c.find_slot.ensures
