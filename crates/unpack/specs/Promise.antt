-- What the unpack call promises, in the terms of Unpack.antt.
use Rattle.std.specs.Prelude.{ℕ, ◌≡◌, List, length, Result}
use Rattle.answers.specs.Values.{unpack_values}
use Rattle.answers.specs.declared.UnpackError.{UnpackError}
use Rattle.unpack.specs.Unpack.{unpack_call}

-- The unpack call: its answer r, and every word of the answer buffer, `before` at the call and `after` it.
pub record Unpacks (file before after : List ℕ) (r : Result ℕ UnpackError) : Type 0 where
  pub values : unpack_values r ≡ (unpack_call file (length before)).values
  pub answer : after ≡ (unpack_call file (length before)).answer
