-- `sections::lookup::items_section` meets its contract: what is found in a part of the words is found in the words.
use mathlib.Core.Path.{refl}
use Rattle.table.proofs.Searches.{items_at}
use Rattle.sections.proofs.lookup.items_section.Goals as goal

pub items_by-requires : goal.items_by-requires
items_by-requires c = rw c.of.ensures c.requires.1

pub returns : goal.returns
returns c = items_at _ _ c.requires.0 _ _ _ _ refl (rw c.of.ensures at c.in_ok-items.ensures)
