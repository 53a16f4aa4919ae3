-- Shifts and masks as arithmetic, for every width: a word of w bits as a high field m and a low field p of k bits, as code takes it apart
-- (`x >> k`, `x & (2^k - 1)`) and puts it together (`m << k | p`). What `x << k` keeps of a word of w bits is `x * 2 ^ k % 2 ^ w`. The
-- laws stand on the kit's lib.Bits and lib.Pow.
use Rattle.std.specs.Prelude.{ℕ, ◌+◌, ◌-◌, ◌*◌, ◌/◌, ◌%◌, ◌^◌, ◌<◌, ◌≤◌, ◌≡◌}
use Rattle.std.proofs.Common.{add-zero, ap, ap₂, ◌∙◌}
use Rattle.std.proofs.Math.Nat.{mul-mod_left}
use Rattle.std.specs.Int.Bits.{bit_and, bit_or, or_shifted_r}
use Rattle.std.proofs.lemmas.Nat.{and_mask, or_shifted}
use lib.Pow.{high, shl_exact, shl-shr, shr_lt, mod-pow-add}

-- "x & (2^k - 1)" is the low field
pub masked : (k x : ℕ) → bit_and x (2 ^ k - 1) ≡ x % 2 ^ k
masked k x = and_mask x k

-- "m | p", where p has k bits and m has none of them
pub marked : (k m p : ℕ) → p < 2 ^ k → bit_or (m * 2 ^ k) p ≡ m * 2 ^ k + p
marked k m p h = or_shifted m k p h

-- "m << k | p", where m has j bits, p has k, and the word has room for both
module _ (w j k : ℕ) {m p : ℕ} (room : j + k ≤ w) (few : m < 2 ^ j) (small : p < 2 ^ k) where
  pub shifted_in : bit_or (m * 2 ^ k % 2 ^ w) p ≡ m * 2 ^ k + p
  shifted_in = ap (λ (x : ℕ). bit_or x p) (shl_exact j k w few room) ∙ or_shifted m k p small

  pub shifted_in_last : bit_or p (m * 2 ^ k % 2 ^ w) ≡ m * 2 ^ k + p
  shifted_in_last = ap (λ (x : ℕ). bit_or p x) (shl_exact j k w few room) ∙ or_shifted_r m k p small

  -- the high field is found again, as the low one is (proofs/FieldLaws)
  pub high_again : bit_or (m * 2 ^ k % 2 ^ w) p / 2 ^ k ≡ m
  high_again = ap (λ (x : ℕ). x / 2 ^ k) shifted_in ∙ high m k small

-- "x << k" in a word of j + k bits keeps the j low bits
pub shifted_out : (j k x : ℕ) → x * 2 ^ k % 2 ^ (j + k) ≡ x % 2 ^ j * 2 ^ k
shifted_out j k x =
    mod-pow-add (x * 2 ^ k) j k
    ∙ ap₂ (λ (y z : ℕ). y % 2 ^ j * 2 ^ k + z) (shl-shr x k) (mul-mod_left x (2 ^ k))
    ∙ add-zero (x % 2 ^ j * 2 ^ k)

-- "x << k | x >> j" turns a word of j + k bits: its j low bits go up, its k high bits come down
pub turned : (j k : ℕ) {x : ℕ} → x < 2 ^ (k + j) → bit_or (x * 2 ^ k % 2 ^ (j + k)) (x / 2 ^ j) ≡ x % 2 ^ j * 2 ^ k + x / 2 ^ j
turned j k {x} h = ap (λ (y : ℕ). bit_or y (x / 2 ^ j)) (shifted_out j k x) ∙ or_shifted (x % 2 ^ j) k (x / 2 ^ j) (shr_lt k j h)
