-- What the functions of this crate promise, in the terms of the scheme.
use Rattle.std.specs.Prelude.{ℕ, ◌+◌, ◌<◌, ◌≡◌, true, List, length, Option, Some, None}
use Rattle.utf8_scheme.specs.Scheme.{tail, octets, starts_with}
use Rattle.utf8_decode.specs.declared.Decoded.{Decoded}

-- the payload bits of a tail octet b, none where it is none
abbrev pub Tail : ℕ → Option ℕ → Type 0
Tail b (Some r) = (r < 0x40) × (b ≡ 0x80 + r)
Tail b None = (n : ℕ) → b ≡ tail n → ⊥

-- the sequence that starts the rest of the bytes
abbrev pub DecodedIs : List ℕ → Option Decoded → Type 0
DecodedIs rest (Some d) = (starts_with rest d.value ≡ true) × (d.length ≡ length (octets d.value))
DecodedIs rest None = (c : ℕ) → starts_with rest c ≡ true → ⊥
