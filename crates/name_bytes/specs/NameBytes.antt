-- The byte form of the name call. 02, Item 2: "A byte form of the name call gives 30 first, else the name call's answer on what was read."
use Rattle.std.specs.Prelude.{ℕ, List, length, replicate, Result, Ok, Err}
use Rattle.answers.specs.Verdict.{Verdict, accepted, refused}
use Rattle.answers.specs.Values.{NameValues, name_values}
use Rattle.ending.specs.Ends.{Ends}
use Rattle.name.specs.Name.{NameResult, name_call}
use Rattle.utf8_scheme.specs.Scheme.{read}
use Rattle.answers.specs.declared.AcceptedName.{AcceptedName}
use Rattle.name_bytes.specs.declared.NameBytesError.{NameBytesError}
use Rattle.name_bytes.specs.declared.NameBytesError.TheVariants.{IllFormed, Refused}

-- "Any other value answered beside a refusal is 0."
abbrev pub beside : ℕ → ℕ → NameValues
beside n p = record { number = n; place = p; length = 0; labels = 0 }

-- the number and the values of each case of the answer
abbrev pub name_bytes_values : Result AcceptedName NameBytesError → NameValues
name_bytes_values (Ok name) = name_values (Ok name)
name_bytes_values (Err (Refused r)) = name_values (Err r)
name_bytes_values (Err (IllFormed at)) = beside 30 at

-- what the name call answers on what was read; after a refusal of the reader both buffers are zeros
abbrev pub on_read : ℕ → List ℕ → ℕ → ℕ → Verdict (List ℕ) → NameResult
on_read setting words room work (accepted name) = name_call setting words name room work
on_read setting words room work (refused n p) = record { values = beside n p; answer = replicate room 0; work = replicate work 0 }

-- the byte form with a setting, on the words of a table and bytes, with an answer buffer of `room` words and a work area of `work` words
unfoldable pub name_bytes_call : ℕ → List ℕ → List ℕ → ℕ → ℕ → NameResult
unfolding read name_call
name_bytes_call setting words bytes room work = on_read setting words room work (read bytes)

-- The byte form: its answer r, and every word of the answer buffer and of the work area, before and after it.
abbrev pub NameBytesCalls : ℕ → List ℕ → List ℕ → List ℕ → List ℕ → List ℕ → List ℕ → Result AcceptedName NameBytesError → Type 0
NameBytesCalls setting words bytes before after work work' r =
    Ends (name_bytes_call setting words bytes (length before) (length work)) (name_bytes_values r) after work'
