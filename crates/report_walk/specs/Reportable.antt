-- What the writer of the report asks.
use Rattle.std.specs.Prelude.{ℕ, ◌≤◌, ◌≡◌, true, List, length, Some}
use Rattle.lists.specs.Lists.{is_some}
use Rattle.lists.specs.Laws.{Every}
use Rattle.limits.specs.Limits.{most_input, least_work}
use Rattle.table.specs.Layout.{parse, the_table}
use Rattle.name.specs.Name.{labels_of}
use Rattle.byte_sink.specs.declared.Sink.{Sink}
use Rattle.token_walk.specs.Walk.{Walkable}

-- nothing is written yet
abbrev pub nothing : Sink
nothing = record { at = Some 0 }

-- what the writer asks: a table, room to work, and labels that 5, 6 and 7 let pass, at least one
pub record Reportable (words name : List ℕ) (work : ℕ) : Type 0 where
  pub table : is_some (parse words) ≡ true
  pub enough : least_work ≤ work
  pub short : length name ≤ most_input
  pub some_name : 1 ≤ length name
  pub labels : Every (Walkable (the_table words)) (labels_of name)
