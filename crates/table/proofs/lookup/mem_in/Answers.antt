-- `table::lookup::mem_in` meets its contract: the library finds an item or none.
use mathlib.Core.Path.{◌∙◌}
use Rattle.lists.specs.Searches.{contains_is}
use Rattle.table.proofs.lookup.mem_in.Goals as goal

pub returns : goal.returns
returns c = c.contains.ensures.value ∙ contains_is c.args.c c.args.items.now
