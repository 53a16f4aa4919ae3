-- A closed instance of the theorem (specs/Instances), by the small table.
use Rattle.std.specs.Prelude.{[], ◌∷◌}
use Rattle.limits.specs.Limits.{least_work}
use Rattle.cases.specs.SmallTable.{small_table}
use Rattle.cases.specs.Starred.{small_table_sound}
use Rattle.screen_laws.specs.Restored.{Restored}
use Rattle.screen_laws.specs.Instances.{small_restores, small_labels, small_accepted, small_form}
use Rattle.screen_laws.proofs.RestoredLaws.{screen_restores}

pub small_restored : Restored 0 small_table (0x3BE ∷ 0x2764 ∷ []) (0x39E ∷ 0x2764 ∷ 0xFE0F ∷ [])
small_restored =
    rw (← small_form)
    (screen_restores 3 0 small_table (0x3BE ∷ 0x2764 ∷ []) 3 least_work small_labels small_table_sound small_restores small_accepted)
