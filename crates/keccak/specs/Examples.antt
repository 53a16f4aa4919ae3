-- The padding at the ends of a block, and two cuttings of the same bytes.
use Rattle.std.specs.Prelude.{ℕ, ◌≡◌, refl, List, [], ◌∷◌, ◌++◌, replicate}
use Rattle.keccak_bytes.specs.Sponge.{padding}
use Rattle.keccak_sponge.specs.State.{fresh, digested}
use Rattle.keccak.specs.Promise.{absorbed_all, cutting}

-- room for one byte, for two, and for none, where the padding is a block
pub one_left : padding 135 ≡ 0x81 ∷ []
unfolding padding
one_left = refl

pub two_left : padding 134 ≡ 0x01 ∷ 0x80 ∷ []
unfolding padding
two_left = refl

pub none_left : padding 136 ≡ 0x01 ∷ (replicate 134 0 ++ (0x80 ∷ []))
unfolding padding
none_left = refl

-- "abc" as "ab" and "c", and as "a", nothing and "bc"
pub two_cuttings : digested (absorbed_all fresh ((0x61 ∷ 0x62 ∷ []) ∷ (0x63 ∷ []) ∷ []))
    ≡ digested (absorbed_all fresh ((0x61 ∷ []) ∷ [] ∷ (0x62 ∷ 0x63 ∷ []) ∷ []))
two_cuttings =
    cutting fresh ((0x61 ∷ 0x62 ∷ []) ∷ (0x63 ∷ []) ∷ []) ((0x61 ∷ []) ∷ [] ∷ (0x62 ∷ 0x63 ∷ []) ∷ []) refl
