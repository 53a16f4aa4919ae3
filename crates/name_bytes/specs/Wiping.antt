-- What `wipe` promises.
use Rattle.std.specs.Prelude.{ℕ, ◌≡◌, List, length, replicate}

-- every word is 0, and so is the one that was read back
pub record Wiped (before after : List ℕ) (r : ℕ) : Type 0 where
  pub zeros : after ≡ replicate (length before) 0
  pub none : r ≡ 0
