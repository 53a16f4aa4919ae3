-- What the exported calls on bytes promise: the definitions of the calls, with every answer as plain numbers.
use Rattle.std.specs.Prelude.{ℕ, List, length}
use Rattle.utf8.specs.Calls.{read_call, write_call}
use Rattle.utf8.specs.Promise.{Ends}
use Rattle.call_fields.specs.declared.bytes.WanlophengUtf8.{WanlophengUtf8}
use Rattle.call_fields.specs.Utf8Fields.{utf8_fields}

-- The reader: every field of its answer r, and every word of the answer buffer.
abbrev pub ReadCrosses : List ℕ → List ℕ → List ℕ → WanlophengUtf8 → Type 0
ReadCrosses bytes before after r = Ends (read_call bytes (length before)) (utf8_fields r) after

-- The writer: every field of its answer r, and every byte of the answer buffer.
abbrev pub WriteCrosses : List ℕ → List ℕ → List ℕ → WanlophengUtf8 → Type 0
WriteCrosses codepoints before after r = Ends (write_call codepoints (length before)) (utf8_fields r) after
