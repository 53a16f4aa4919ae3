-- Rule 8, decomposition by decomposition.
use Rattle.std.specs.Prelude.{ℕ, Bool, not, ◌&&◌, ◌||◌, List}
use Rattle.table.specs.Table.{Headed, Table}
use Rattle.text.specs.QuickCheck.{second_item}
use Rattle.soundness.specs.QuickCheck.{passes8}
use Rattle.rule_7.specs.Pairs.{pair_of}

-- the head of a record passes, and so does its second item, if it is a composition pair
unfoldable pub record_passes : Table → ℕ → List ℕ → Bool
unfolding passes8 pair_of
record_passes t h items = passes8 t h && (not (pair_of t h items) || passes8 t (second_item items))

abbrev pub record_passes_in : Table → Headed → Bool
record_passes_in t r = record_passes t r.head r.items
