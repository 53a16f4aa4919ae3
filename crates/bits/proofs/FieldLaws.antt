-- Laws of the fields of a word that stand on `masked`.
use Rattle.std.specs.Prelude.{ℕ, ◌+◌, ◌-◌, ◌*◌, ◌/◌, ◌%◌, ◌^◌, ◌<◌, ◌≤◌, ◌≡◌}
use Rattle.std.proofs.Common.{mod-lt, ap, ◌∙◌}
use Rattle.std.specs.Int.Bits.{bit_and, bit_or}
use Rattle.bits.specs.Fields.{masked, marked, shifted_in}
use lib.Pow.{pow_pos, split, low}

-- the low field has k bits
pub masked_small : (k x : ℕ) → bit_and x (2 ^ k - 1) < 2 ^ k
masked_small k x = rw (masked k x) (mod-lt x (pow_pos k))

-- "m << k | p", where m has j bits, p has k, and the word has room for both
module _ (w j k : ℕ) {m p : ℕ} (room : j + k ≤ w) (few : m < 2 ^ j) (small : p < 2 ^ k) where
  -- the low field is found again
  pub low_again : bit_and (bit_or (m * 2 ^ k % 2 ^ w) p) (2 ^ k - 1) ≡ p
  low_again = masked k (bit_or (m * 2 ^ k % 2 ^ w) p) ∙ ap (λ (x : ℕ). x % 2 ^ k) (shifted_in w j k room few small) ∙ low m k small

-- a number is its two fields
pub fields : (k x : ℕ) → bit_or (x / 2 ^ k * 2 ^ k) (bit_and x (2 ^ k - 1)) ≡ x
fields k x =
    marked k (x / 2 ^ k) (bit_and x (2 ^ k - 1)) (masked_small k x)
    ∙ ap (λ (p : ℕ). x / 2 ^ k * 2 ^ k + p) (masked k x)
    ∙ split x k
