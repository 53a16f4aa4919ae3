-- What the byte form of the name call promises with its answer as plain numbers: the definition of the call.
use Rattle.std.specs.Prelude.{ℕ, List, length}
use Rattle.ending.specs.Ends.{Ends}
use Rattle.name_bytes.specs.NameBytes.{name_bytes_call}
use Rattle.fields.specs.declared.WanlophengName.{WanlophengName}
use Rattle.fields.specs.Fields.{name_fields}

-- The byte form of the name call with a setting: every field of its answer r, and every word of both buffers.
abbrev pub NameBytesCrosses : ℕ → List ℕ → List ℕ → List ℕ → List ℕ → List ℕ → List ℕ → WanlophengName → Type 0
NameBytesCrosses setting words bytes before after work work' r =
    Ends (name_bytes_call setting words bytes (length before) (length work)) (name_fields r) after work'
