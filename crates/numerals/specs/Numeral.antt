-- How a number is written. 01, "Names at the counter": "no leading zero on output"; "upper-case hex"; "Refusal, place and the count of
-- names after `end` are decimal."
use Rattle.std.specs.Prelude.{ℕ, zero, suc, ◌+◌, ◌/◌, ◌%◌, ◌≤◌, cond, List, [], ◌∷◌, ◌++◌, length, ltb}

-- the byte of a digit: `0` to `9`, then `A` to `F`
abbrev pub digit_byte : ℕ → ℕ
digit_byte d = cond (ltb d 10) (48 + d) (55 + d)

-- The digits of n, the most significant first: those of n / base and then that of n % base, or one digit where n is below the base.
-- The first argument only bounds the steps; n steps are enough for n, since n / base is below n.
abbrev pub numeral_in : ℕ → ℕ → ℕ → List ℕ
numeral_in zero base n = digit_byte n ∷ []
numeral_in (suc steps) base n =
    let front = numeral_in steps base (n / base) in
    cond (ltb n base) (digit_byte n ∷ []) (front ++ (digit_byte (n % base) ∷ []))

unfoldable pub numeral : ℕ → ℕ → List ℕ
numeral base n = numeral_in n base n

-- what `write_numeral` asks: a base of 2 to 16, and room for the digits
pub record NumeralRoom (base n : ℕ) (out : List ℕ) : Type 0 where
  pub least : 2 ≤ base
  pub most : base ≤ 16
  pub room : length (numeral base n) ≤ length out
