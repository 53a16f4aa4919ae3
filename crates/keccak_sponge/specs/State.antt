-- The sponge as it takes bytes one by one. A caller can make any state: a fill of 136 or more counts modulo 136.
use Rattle.std.specs.Prelude.{ℕ, ◌+◌, ◌%◌, ◌-◌, cond, List, [], ◌∷◌, eqb, replicate}
use Rattle.keccak_f.specs.Permutation.{keccak_f}
use Rattle.keccak_bytes.specs.Sponge.{rate, squeezed}
use Rattle.keccak_bytes.specs.XorByte.{xor_byte}
use Rattle.keccak_sponge.specs.declared.Keccak256.{Keccak256}

-- the lanes, and how many bytes of the next block are in them
abbrev pub state : List ℕ → ℕ → Keccak256
state s n = record { lanes = s; fill = n }

-- nothing taken
abbrev pub fresh : Keccak256
fresh = state (replicate 25 0) 0

-- lanes with n bytes of a block in them; a full block is permuted
abbrev pub filled : List ℕ → ℕ → Keccak256
filled s n = cond (eqb n rate) (state (keccak_f s) 0) (state s n)

-- bytes taken one after another by a state whose fill is below the rate
unfoldable pub taken : Keccak256 → List ℕ → Keccak256
taken k [] = k
taken k (b ∷ m) = taken (filled (xor_byte k.lanes k.fill b) (k.fill + 1)) m

-- a piece taken; the fill counts modulo the rate
unfoldable pub absorbed : Keccak256 → List ℕ → Keccak256
absorbed k m = taken (state k.lanes (k.fill % rate)) m

-- the digest: 01 xored in behind the bytes taken and 80 into the last byte of the block, then permuted and squeezed
unfoldable pub digested : Keccak256 → List ℕ
digested k = squeezed (keccak_f (xor_byte (xor_byte k.lanes (k.fill % rate) 0x01) (rate - 1) 0x80))
