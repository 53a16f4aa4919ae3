-- What the search for the list of a group answers.
use Rattle.std.specs.Prelude.{ℕ, ◌≡◌, true, List, length}
use Rattle.std.proofs.Math.Option.{Option, some}
use Rattle.lists.specs.Lists.{is_some}
use Rattle.table.specs.Layout.{sequences}
use Rattle.table.specs.Part.{records_in}

-- the list of a group: these words are its records
pub record ListIs (words : List ℕ) (list : Option (List (List ℕ))) : Type 0 where
  pub holds : is_some (sequences (length words) words) ≡ true
  pub same : list ≡ some (records_in sequences words)
