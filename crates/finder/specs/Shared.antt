-- A start that two texts have in common.
use Rattle.std.specs.Prelude.{ℕ, ◌≤◌, ◌≡◌, List, length, take}

-- the first k of both are the same; whether more are is left open
pub record Shared (a b : List ℕ) (k : ℕ) : Type 0 where
  pub left : k ≤ length a
  pub right : k ≤ length b
  pub same : take k a ≡ take k b
