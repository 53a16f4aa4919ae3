-- Nodes that EIP-137 gives, computed by the definition: of the empty name and of "eth"; what an answer is split into.
use Rattle.std.specs.Prelude.{◌≡◌, refl, [], ◌∷◌, map, replicate}
use Rattle.keccak_f.specs.Permutation.{keccak_f}
use Rattle.keccak_bytes.specs.Sponge.{padding, number, xor_block, absorb_blocks, squeezed, keccak256}
use Rattle.utf8_scheme.specs.Scheme.{octets}
use Rattle.name.specs.Name.{labels_of}
use Rattle.name_node.specs.Node.{node}

pub empty : node (labels_of []) ≡ replicate 32 0
unfolding node labels_of
empty = refl

-- the empty answer has no labels, and one that is a stop has two empty ones
pub split_answers : map labels_of ([] ∷ (0x2E ∷ []) ∷ []) ≡ [] ∷ ([] ∷ [] ∷ []) ∷ []
unfolding labels_of
split_answers = refl

pub eth : node (labels_of (0x65 ∷ 0x74 ∷ 0x68 ∷ [])) ≡
    0x93 ∷ 0xcd ∷ 0xeb ∷ 0x70 ∷ 0x8b ∷ 0x75 ∷ 0x45 ∷ 0xdc
    ∷ 0x66 ∷ 0x8e ∷ 0xb9 ∷ 0x28 ∷ 0x01 ∷ 0x76 ∷ 0x16 ∷ 0x9d
    ∷ 0x1c ∷ 0x33 ∷ 0xcf ∷ 0xd8 ∷ 0xed ∷ 0x6f ∷ 0x04 ∷ 0x69
    ∷ 0x0a ∷ 0x0b ∷ 0xcc ∷ 0x88 ∷ 0xa9 ∷ 0x3f ∷ 0xc4 ∷ 0xae ∷ []
unfolding node labels_of octets padding number xor_block absorb_blocks squeezed keccak_f keccak256
eth = refl
