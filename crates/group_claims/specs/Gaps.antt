-- Where no number of a batch lies.
use Rattle.std.specs.Prelude.{ℕ, ◌<◌, List, length, get_or, Some, None}
use Rattle.std.specs.declared.option.Option as rust

-- no number lies strictly between low and high
pub record Between (xs : List ℕ) (low high : ℕ) : Type 0 where
  pub none : (q : ℕ) → q < length xs → low < get_or xs q 0 → get_or xs q 0 < high → ⊥

-- no number lies between low and the one that is answered; where none is, none lies above low
abbrev pub Next : List ℕ → ℕ → rust.Option ℕ → Type 0
Next xs low (Some high) = Between xs low high
Next xs low None = (q : ℕ) → q < length xs → low < get_or xs q 0 → ⊥
