-- A section that is sorted without overlap, in which a search by halves finds and misses, and one that is not.
use Rattle.std.specs.Prelude.{◌≡◌, ℕ, zero, suc, ◌*◌, ◌<◌, ◌≤◌, true, false, List, [], ◌∷◌, slice_index, refl}
use Rattle.std.proofs.Common.{arith}
use Rattle.table.specs.Part.{in_pairs}
use Rattle.apart.specs.Apart.{Apart}
use Rattle.apart.specs.Tested.{all_below, tested_apart}
use Rattle.halving.specs.Halving.{Ranked}
use Rattle.halving.specs.Stride.{pairs-found}

-- 5 to 9, 20, 30 to 41
abbrev sample : List ℕ
sample = 5 ∷ 9 ∷ 20 ∷ 20 ∷ 30 ∷ 41 ∷ []

pub sample-apart : Apart 2 1 sample
unfolding all_below
sample-apart = tested_apart 2 1 sample refl

-- two of the pairs start at or below a number from 20 to 29
sample_ranked : (c : ℕ) → 20 ≤ c → c < 30 → Ranked sample 2 c 2
sample_ranked c h i = record { inside = omega arith; below = λ u. below; above = λ u. above }
  where
    below : (k : ℕ) → k < 2 → slice_index sample (k * 2) ≤ c
    below zero l = omega arith
    below (suc zero) l = omega arith
    below (suc (suc k)) l = absurd (omega arith)

    above : (k : ℕ) → 2 ≤ k → k < 3 → c < slice_index sample (k * 2)
    above k l m =
        let same : k ≡ 2 = omega arith in
        rw same (omega arith)

-- so 20 is found, and 25 is not
pub sample-found : (in_pairs 20 sample ≡ true) × (in_pairs 25 sample ≡ false)
sample-found = (pairs-found sample 20 2 sample-apart (sample_ranked 20 (omega arith) (omega arith)), pairs-found sample 25 2 sample-apart (sample_ranked 25 (omega arith) (omega arith)))

-- ranges that share an end overlap
pub shared_end : Apart 2 1 (5 ∷ 9 ∷ 9 ∷ 12 ∷ []) → ⊥
shared_end a = omega (arith, a.apart 0 1 (omega arith) (omega arith))
