-- What the function of this crate promises.
use Rattle.std.specs.Prelude.{ℕ, ◌-◌, ◌≤◌, ◌≡◌, List, length, take, drop, replicate, Result, Ok, Err}
use Rattle.std.proofs.Math.Option.{none, some}
use Rattle.answers.specs.declared.UnpackError.{UnpackError}
use Rattle.table_file.specs.File.{table_words}

-- the table's words stand in front, and zeros behind them
pub record TableRead (file before after : List ℕ) (n : ℕ) : Type 0 where
  pub words : table_words file ≡ some (take n after)
  pub room : n ≤ length before
  pub zeros : drop n after ≡ replicate (length before - n) 0

-- there is no table, and all is zeros
pub record NoTable (file before after : List ℕ) : Type 0 where
  pub words : table_words file ≡ none
  pub zeros : after ≡ replicate (length before) 0

abbrev pub TableIs : List ℕ → List ℕ → List ℕ → Result ℕ UnpackError → Type 0
TableIs file before after (Ok n) = TableRead file before after n
TableIs file before after (Err e) = NoTable file before after

-- the table file, by the case of the answer
pub record ReadsTable (file before after : List ℕ) (r : Result ℕ UnpackError) : Type 0 where
  pub is : TableIs file before after r
