-- A test of every number below a bound.
use Rattle.std.specs.Prelude.{ℕ, ◌/◌, ◌<◌, ◌≡◌, Bool, true, false}

-- whether every number below the bound passes the test
pub record Passes (p : ℕ → Bool) (bound : ℕ) (r : Bool) : Type 0 where
  pub yes : r ≡ true → (c : ℕ) → c < bound → p c ≡ true
  pub no : r ≡ false → ((c : ℕ) → c < bound → p c ≡ true) → ⊥

-- whether the 32 places of the word i of a set pass it
pub record WordPasses (p : ℕ → Bool) (i : ℕ) (r : Bool) : Type 0 where
  pub yes : r ≡ true → (d : ℕ) → d / 32 ≡ i → p d ≡ true
  pub no : r ≡ false → ((d : ℕ) → d / 32 ≡ i → p d ≡ true) → ⊥
