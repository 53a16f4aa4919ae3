-- What the functions of this crate ask and do.
use Rattle.std.specs.Prelude.{ℕ, ◌-◌, ◌≤◌, ◌≡◌, true, false, List, eqb, length, get_or, drop}
use Rattle.lists.specs.Laws.{Every}
use Rattle.scalar.specs.Scalar.{is_scalar}
use Rattle.name.specs.Label.{stop}

-- every codepoint is a scalar value
abbrev pub Scalars : List ℕ → Type 0
Scalars s = Every (λ c. is_scalar c ≡ true) s

-- r is where the last label starts: no stop from there on, and one before it unless the text starts there
pub record Starts (text : List ℕ) (r : ℕ) : Type 0 where
  pub within : r ≤ length text
  pub free : Every (λ c. eqb c stop ≡ false) (drop r text)
  pub behind : 1 ≤ r → get_or text (r - 1) 0 ≡ stop
