-- Whether words have a layout fault, and the number that stands for it.
use Rattle.std.specs.Prelude.{ℕ, Bool, not, cond, List}
use Rattle.lists.specs.Lists.{is_some}
use Rattle.table.specs.Layout.{parse}

unfoldable pub has_fault : List ℕ → Bool
unfolding parse
has_fault ws = not (is_some (parse ws))

-- 1 where the words have a layout fault, 0 where they hold a table
abbrev pub layout_fault : List ℕ → ℕ
layout_fault ws = cond (has_fault ws) 1 0
