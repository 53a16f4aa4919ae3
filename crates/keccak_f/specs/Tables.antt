-- The two tables follow their rules.
use Rattle.std.specs.Prelude.{ℕ, zero, suc, ◌+◌, ◌-◌, ◌*◌, ◌/◌, ◌%◌, ◌^◌, ◌≡◌, refl, cond, List, ltb, set, replicate}
use Rattle.lists.specs.Lists.{total}
use Rattle.keccak_f.specs.Tabulate.{tabulate}
use Rattle.keccak_f.specs.Permutation.{◌⊕◌, offsets, round_constants}

-- FIPS 202, 3.2.2: (t + 1) (t + 2) / 2 is written at (x, y), for each t, and the next place is (y, 2 x + 3 y)
unfoldable pub walked : ℕ → ℕ → ℕ → ℕ → List ℕ → List ℕ
walked zero t x y table = table
walked (suc n) t x y table =
    walked n (suc t) y ((2 * x + 3 * y) % 5) (set table (x + 5 * y) ((t + 1) * (t + 2) / 2 % 64))

-- the offsets: 0 at (0, 0), and the 24 others on the walk from (1, 0)
pub offsets_rule : offsets ≡ walked 24 0 1 0 (replicate 25 0)
unfolding offsets walked
offsets_rule = refl

-- FIPS 202, 3.2.5: a polynomial, its bits the coefficients, times x modulo x^8 + x^6 + x^5 + x^4 + 1
unfoldable pub times_x : ℕ → ℕ
times_x r = cond (ltb r 128) (2 * r) ((2 * r - 256) ⊕ 0x71)

unfoldable pub power : ℕ → ℕ
unfolding times_x
power zero = 1
power (suc t) = times_x (power t)

-- "the coefficient of x^0"
unfoldable pub rc : ℕ → ℕ
unfolding power
rc t = power t % 2

-- the constant of round i has rc(j + 7 i) at bit 2^j - 1, for j from 0 to 6
pub constants_rule : round_constants ≡ tabulate 24 (λ i. total (tabulate 7 (λ j. rc (j + 7 * i) * 2 ^ (2 ^ j - 1))))
unfolding round_constants rc
constants_rule = refl
