-- What the code at the end of a call answers.
use Rattle.std.specs.Prelude.{ℕ, ◌≡◌, Bool, cond, List, length, take, replicate, leb}
use Rattle.lists.specs.Filled.{filled}

-- the first n words are kept, if there are so many, with zeros behind them; else all are zeros, and so is the work area
pub record Finishes (before after work work' : List ℕ) (n : ℕ) (kept : Bool) : Type 0 where
  pub fits : kept ≡ leb n (length before)
  pub answer : after ≡ cond kept (filled (length before) (take n before)) (replicate (length before) 0)
  pub cleared : work' ≡ replicate (length work) 0
