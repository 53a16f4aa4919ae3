-- The permutation gives 25 lanes.
use Rattle.std.specs.Prelude.{ℕ, ◌≡◌, refl, List, length}
use Rattle.keccak_f.specs.Permutation.{keccak_f}

pub permuted_length : (a : List ℕ) → length (keccak_f a) ≡ 25
unfolding keccak_f
permuted_length a = refl
