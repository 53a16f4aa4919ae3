-- The hash of labels (EIP-137). 02, Item 10: "32 zero bytes for no labels, otherwise Keccak-256 over the hash of the remaining labels followed by
-- Keccak-256 of the leftmost label's UTF-8 bytes."
use Rattle.std.specs.Prelude.{ℕ, List, [], ◌∷◌, ◌++◌, replicate}
use Rattle.lists.specs.Lists.{joined_map}
use Rattle.utf8_scheme.specs.Scheme.{octets}
use Rattle.keccak_bytes.specs.Sponge.{keccak256}

-- the UTF-8 bytes of a label
abbrev pub octets_of : List ℕ → List ℕ
octets_of l = joined_map octets l

-- the hash of labels, the leftmost first
unfoldable pub node : List (List ℕ) → List ℕ
node [] = replicate 32 0
node (l ∷ ls) = keccak256 (node ls ++ keccak256 (octets_of l))
