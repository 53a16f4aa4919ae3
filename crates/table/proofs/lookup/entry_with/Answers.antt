-- `table::lookup::entry_with` meets its contract: what is skipped has no part in the answer.
use Rattle.table.proofs.Fours.{found_behind}
use Rattle.table.proofs.lookup.entry_with.Goals as goal

pub returns : goal.returns
returns g c = found_behind _ _ _ _ _ c.skip-i.ensures c.first_with.ensures
