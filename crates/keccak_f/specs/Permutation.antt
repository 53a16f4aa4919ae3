-- Keccak-f[1600], from the Keccak team's summary of the reference, which the quotes are of (FIPS 202, section 3, says the same): 24 rounds of
-- theta, rho, pi, chi and iota on a state of 25 lanes. A lane is a number below 2 ^ 64; ⊕, `bit_and` and `complement` work on its bits. "All
-- the operations on the indices are done modulo 5."
use Rattle.std.specs.Prelude.{ℕ, ◌+◌, ◌-◌, ◌*◌, ◌/◌, ◌%◌, ◌^◌, List, [], ◌∷◌, get_or, set}
use Rattle.std.specs.Int.Bits.{bit_xor, bit_and}
use Rattle.keccak_f.specs.Tabulate.{tabulate}

infixl 50 ◌⊕◌
-- exclusive or of the bits
abbrev pub ◌⊕◌ : ℕ → ℕ → ℕ
a ⊕ b = bit_xor a b

-- every bit turned over
abbrev pub complement : ℕ → ℕ
complement a = (2 ^ 64 - 1) - a

-- the bits moved n places up, those above the highest coming in again below
unfoldable pub rotate : ℕ → ℕ → ℕ
rotate a n = a * 2 ^ n % 2 ^ 64 + a / 2 ^ (64 - n)

-- lane A[x, y], which stands at x + 5 y
abbrev pub lane : List ℕ → ℕ → ℕ → ℕ
lane a x y = get_or a (x % 5 + 5 * (y % 5)) 0

-- the state with lane f x y at (x, y)
unfoldable pub lanes : (ℕ → ℕ → ℕ) → List ℕ
lanes f = tabulate 25 (λ i. f (i % 5) (i / 5))

-- "C[x] = A[x,0] xor A[x,1] xor A[x,2] xor A[x,3] xor A[x,4]"
abbrev pub parity : List ℕ → ℕ → ℕ
parity a x = lane a x 0 ⊕ lane a x 1 ⊕ lane a x 2 ⊕ lane a x 3 ⊕ lane a x 4

unfoldable pub parities : List ℕ → List ℕ
parities a = tabulate 5 (parity a)

-- "D[x] = C[x-1] xor rot(C[x+1], 1)"
abbrev pub effect : List ℕ → ℕ → ℕ
effect c x = get_or c ((x + 4) % 5) 0 ⊕ rotate (get_or c ((x + 1) % 5) 0) 1

unfoldable pub effects : List ℕ → List ℕ
unfolding rotate
effects c = tabulate 5 (effect c)

-- "A[x,y] = A[x,y] xor D[x]"
unfoldable pub theta : List ℕ → List ℕ
unfolding lanes parities effects
theta a = let d = effects (parities a) in lanes (λ x y. lane a x y ⊕ get_or d x 0)

-- r[x, y]
unfoldable pub offsets : List ℕ
offsets =
    0 ∷ 1 ∷ 62 ∷ 28 ∷ 27 ∷ 36 ∷ 44 ∷ 6 ∷ 55 ∷ 20 ∷ 3 ∷ 10 ∷ 43 ∷ 25 ∷ 39 ∷ 41 ∷ 45 ∷ 15 ∷ 21 ∷ 8 ∷ 18 ∷ 2 ∷ 61 ∷ 56 ∷ 14 ∷ []

-- "rot(A[x,y], r[x,y])"
unfoldable pub rho : List ℕ → List ℕ
unfolding lanes rotate offsets
rho a = lanes (λ x y. rotate (lane a x y) (lane offsets x y))

-- "B[y,2*x+3*y] = A[x,y]": lane (x, y) comes from (x + 3 y, x)
unfoldable pub pi : List ℕ → List ℕ
unfolding lanes
pi a = lanes (λ x y. lane a (x + 3 * y) x)

-- "A[x,y] = B[x,y] xor ((not B[x+1,y]) and B[x+2,y])"
abbrev pub chi_lane : ℕ → ℕ → ℕ → ℕ
chi_lane a b c = a ⊕ bit_and (complement b) c

unfoldable pub chi : List ℕ → List ℕ
unfolding lanes
chi b = lanes (λ x y. chi_lane (lane b x y) (lane b (x + 1) y) (lane b (x + 2) y))

-- "A[0,0] = A[0,0] xor RC"
abbrev pub iota : List ℕ → ℕ → List ℕ
iota a rc = set a 0 (get_or a 0 0 ⊕ rc)

-- a round: the five steps in this order
unfoldable pub round : List ℕ → ℕ → List ℕ
unfolding theta rho pi chi
round a rc = iota (chi (pi (rho (theta a)))) rc

-- RC[0] to RC[23]
unfoldable pub round_constants : List ℕ
round_constants =
    0x0000000000000001
    ∷ 0x0000000000008082
    ∷ 0x800000000000808A
    ∷ 0x8000000080008000
    ∷ 0x000000000000808B
    ∷ 0x0000000080000001
    ∷ 0x8000000080008081
    ∷ 0x8000000000008009
    ∷ 0x000000000000008A
    ∷ 0x0000000000000088
    ∷ 0x0000000080008009
    ∷ 0x000000008000000A
    ∷ 0x000000008000808B
    ∷ 0x800000000000008B
    ∷ 0x8000000000008089
    ∷ 0x8000000000008003
    ∷ 0x8000000000008002
    ∷ 0x8000000000000080
    ∷ 0x000000000000800A
    ∷ 0x800000008000000A
    ∷ 0x8000000080008081
    ∷ 0x8000000000008080
    ∷ 0x0000000080000001
    ∷ 0x8000000080008008
    ∷ []

-- a round for each constant
unfoldable pub rounds : List ℕ → List ℕ → List ℕ
unfolding round
rounds a [] = a
rounds a (rc ∷ rcs) = rounds (round a rc) rcs

-- "A = Round[b](A, RC[i])" for each i from 0 to 23
unfoldable pub keccak_f : List ℕ → List ℕ
unfolding rounds round_constants
keccak_f a = rounds a round_constants
