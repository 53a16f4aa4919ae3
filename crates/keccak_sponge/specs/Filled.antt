-- Laws of a block that is full, or is not.
use Rattle.std.specs.Prelude.{ℕ, ◌≡◌, refl, Bool, true, false, cond, List, eqb}
use Rattle.std.proofs.Common.{eq-eqb, ne_eqb, eqb-true}
use Rattle.std.proofs.lemmas.Bool.{eqb-false}
use Rattle.keccak_f.specs.Permutation.{keccak_f}
use Rattle.keccak_bytes.specs.Sponge.{rate}
use Rattle.keccak_sponge.specs.declared.Keccak256.{Keccak256}
use Rattle.keccak_sponge.specs.State.{state, filled}

-- a full block is permuted, another is left as it is
pub block_full : (s : List ℕ) (n : ℕ) → n ≡ rate → filled s n ≡ state (keccak_f s) 0
block_full s n e = rw (eq-eqb n rate e)

pub block_open : (s : List ℕ) (n : ℕ) → (n ≡ rate → ⊥) → filled s n ≡ state s n
block_open s n e = rw (ne_eqb n rate e)

-- what holds in both cases
pub full_or_open : (P : Keccak256 → Type 0) (s : List ℕ) (n : ℕ) → (n ≡ rate → P (state (keccak_f s) 0)) → ((n ≡ rate → ⊥) → P (state s n))
    → P (filled s n)
full_or_open P s n full open' = go (eqb n rate) refl
  where
    go : (b : Bool) → eqb n rate ≡ b → P (cond b (state (keccak_f s) 0) (state s n))
    go true e = full (eqb-true n rate e)
    go false e = open' (eqb-false n rate e)
