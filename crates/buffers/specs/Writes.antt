-- What a function promises that writes at the front of a buffer and answers how much it wrote, or that wipes one.
use Rattle.std.specs.Prelude.{ℕ, ◌≤◌, ◌≡◌, List, ◌++◌, Bool, true, length, drop, replicate}

-- the r elements of `text` stand in front, and what stood behind them stays
pub record Writes (text before after : List ℕ) (r : ℕ) : Type 0 where
  pub holds : after ≡ text ++ drop r before
  pub long : length text ≡ r
  pub room : r ≤ length before

-- every word is 0, and the one that was read back is too
pub record Wiped (before after : List ℕ) (r : Bool) : Type 0 where
  pub zeros : after ≡ replicate (length before) 0
  pub read : r ≡ true
