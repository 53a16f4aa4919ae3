-- When a list is bytes.
use Prim.Native.Nat.{ℕ, zero, suc, ◌<◌}
use mathlib.Core.List.{List, [], ◌∷◌}
use lib.ListN.{get_or}
use Rattle.keccak.specs.Blocks.{Bytes}

-- a list whose every element is below 256 is bytes
pub all-bytes : (m : List ℕ) → ((i : ℕ) → get_or m i 0 < 256) → Bytes m
all-bytes [] h = tt
all-bytes (b ∷ m) h = (h zero, all-bytes m (λ i. h (suc i)))
