-- `name_twice`: none of the first i slots has a name that stands again behind it.
use mathlib.Core.Path.{◌≡◌}
use mathlib.Core.List.{map}
use lib.ListN.{drop}
use Rattle.book_slots.specs.Book.{slot_of}
use Rattle.book_slots.specs.Damage.{name_twice}
use Rattle.book_damage.proofs.name_twice.Given as goal

abbrev pub invariant-loop-i : goal.invariant-loop-i
invariant-loop-i l = name_twice (map slot_of l.slots) ≡ name_twice (map slot_of (drop l.i l.slots))
