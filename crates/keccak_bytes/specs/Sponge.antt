-- Keccak-256 (the Keccak reference; 02, Item 10): "It is the original Keccak with padding byte 01, not SHA-3's 06." "State is 25 lanes of
-- 64 bits, rate 136 bytes."
use Rattle.std.specs.Prelude.{ℕ, zero, suc, ◌+◌, ◌-◌, ◌*◌, ◌/◌, ◌%◌, ◌^◌, cond, List, [], ◌∷◌, ◌++◌, eqb, length, get_or, take, drop, replicate}
use Rattle.keccak_f.specs.Tabulate.{tabulate}
use Rattle.keccak_f.specs.Permutation.{◌⊕◌, keccak_f}

-- "rate 136 bytes"
abbrev pub rate : ℕ
rate = 136

-- the padding behind n bytes (pad10*1): 01, then zeros up to a multiple of the rate, with 80 xored into the last byte
unfoldable pub padding : ℕ → List ℕ
padding n =
    let room = rate - n % rate in
    cond (eqb room 1) (0x81 ∷ []) (0x01 ∷ (replicate (room - 2) 0 ++ (0x80 ∷ [])))

-- the number that bytes stand for, the lowest first
unfoldable pub number : List ℕ → ℕ
number [] = 0
number (b ∷ bs) = b + 256 * number bs

-- a block xored into the state: into each lane the number of the next eight bytes, and nothing behind the block's end
unfoldable pub xor_block : List ℕ → List ℕ → List ℕ
xor_block [] block = []
xor_block (a ∷ s) block = (a ⊕ number (take 8 block)) ∷ xor_block s (drop 8 block)

-- absorbing: each block in turn is xored into the state, which is then permuted
unfoldable pub absorb_blocks : ℕ → List ℕ → List ℕ → List ℕ
absorb_blocks zero s p = s
absorb_blocks (suc n) s p = absorb_blocks n (keccak_f (xor_block s (take rate p))) (drop rate p)

-- byte i of the state: byte i % 8 of lane i / 8, the lowest first
abbrev pub byte_at : List ℕ → ℕ → ℕ
byte_at s i = get_or s (i / 8) 0 / 2 ^ (8 * (i % 8)) % 256

-- squeezing: the first 32 bytes of the state
unfoldable pub squeezed : List ℕ → List ℕ
squeezed s = tabulate 32 (byte_at s)

-- the digest of a message
unfoldable pub keccak256 : List ℕ → List ℕ
keccak256 m =
    let p = m ++ padding (length m) in
    squeezed (absorb_blocks (length p / rate) (replicate 25 0) p)
