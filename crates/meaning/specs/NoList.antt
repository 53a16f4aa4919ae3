-- 16 on the small table, in which no group has a list: no name is refused so.
use Rattle.std.specs.Prelude.{ℕ, ◌≡◌, refl, false, List}
use Rattle.table.specs.Layout.{the_table}
use Rattle.name.specs.Name.{name_call}
use Rattle.cases.specs.SmallTable.{small_table}
use Rattle.meaning.specs.Numbers.{any_list, name_no_16}

small_unlisted : any_list (the_table small_table) ≡ false
unfolding the_table small_table
small_unlisted = refl

pub small_no_16 : (on : ℕ) (name : List ℕ) (room work : ℕ) → (name_call on small_table name room work).values.number ≡ 16 → ⊥
small_no_16 on name room work = name_no_16 on small_table name work room small_unlisted
