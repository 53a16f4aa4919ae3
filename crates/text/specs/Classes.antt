-- What the code that finds a combining class answers.
use Rattle.std.specs.Prelude.{ℕ, ◌≤◌, ◌≡◌}
use Rattle.table.specs.Table.{Table}
use Rattle.table.specs.Layout.{most_class}
use Rattle.text.specs.Decomposition.{class_of}

-- a class that was found
pub record ClassOf (t : Table) (c r : ℕ) : Type 0 where
  pub is : r ≡ class_of t c
  pub small : r ≤ most_class
