-- `table::lookup::whole_in_of` meets its contract: what is found in a part of the words is found in the words.
use mathlib.Core.Path.{refl}
use Rattle.table.proofs.Searches.{whole-at}
use Rattle.table.proofs.lookup.whole_in_of.Goals as goal

pub returns : goal.returns
returns c = whole-at _ _ c.requires.fits _ _ _ refl (rw c.of.ensures at c.in_ok-valid.ensures)
