-- A byte xored into the state, as a sponge takes bytes one by one.
use Rattle.std.specs.Prelude.{ℕ, ◌*◌, ◌/◌, ◌%◌, ◌^◌, List, get_or, set}
use Rattle.keccak_f.specs.Permutation.{◌⊕◌}

-- the byte b xored into place p of the state: into byte p % 8 of lane p / 8
unfoldable pub xor_byte : List ℕ → ℕ → ℕ → List ℕ
xor_byte s p b = set s (p / 8) (get_or s (p / 8) 0 ⊕ b * 2 ^ (8 * (p % 8)))
