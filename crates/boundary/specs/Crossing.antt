-- What the exported calls promise: the definitions of the calls, with every answer as plain numbers.
use Rattle.std.specs.Prelude.{ℕ, ◌≡◌, List, length}
use Rattle.unpack.specs.Unpack.{unpack_call}
use Rattle.fields.specs.declared.WanlophengUnpack.{WanlophengUnpack}
use Rattle.fields.specs.Fields.{unpack_fields}

-- The unpack call: both fields of its answer r, and every word of the answer buffer, `before` at the call and `after` it.
pub record UnpackCrosses (file before after : List ℕ) (r : WanlophengUnpack) : Type 0 where
  pub values : unpack_fields r ≡ (unpack_call file (length before)).values
  pub answer : after ≡ (unpack_call file (length before)).answer
