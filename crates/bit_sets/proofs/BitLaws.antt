-- Laws of the bits of a word.
use Prim.Native.Nat.{ℕ, zero, suc, ◌+◌, ◌*◌, ◌/◌, ◌%◌, ◌^◌, ◌<◌, ◌≤◌, max}
use native.Mathlib.Nat.{pow-suc, pow-succ', div-div-eq-div-mul, max-zero, max-eq_right, max-le}
use native.Mathlib.Omega.{arith}
use mathlib.Core.Path.{◌≡◌, refl, sym, ◌∙◌, ap}
use mathlib.Core.Bool.{Bool, true, false, ◌||◌}
use lib.Bits.{bit_or, or_step, or_zero_r}
use lib.Dec.{eqb}
use borrow.Author.Tests.{eq-eqb, ne_eqb, eqb-true, eqb-false}
use Rattle.bit_sets.specs.Sets.{bit}

-- the bit at the place k by a shift
pub bit_shifted : (k w : ℕ) → eqb (w / 2 ^ k % 2) 1 ≡ bit k w
unfolding bit
bit_shifted zero w = let e : w / 1 ≡ w = omega arith in rw e
bit_shifted (suc k) w =
    let e : w / 2 ^ suc k ≡ w / 2 / 2 ^ k = ap (λ (x : ℕ). w / x) (pow-succ' 2 k) ∙ sym (div-div-eq-div-mul w 2 (2 ^ k)) in
    rw e (bit_shifted k (w / 2))

-- a number by its lowest bit and the others
halved : (x m : ℕ) → m < 2 → (x * 2 + m) / 2 ≡ x
halved x m h = omega arith

lowest : (x m : ℕ) → m < 2 → (x * 2 + m) % 2 ≡ m
lowest x m h = omega arith

module _ (w p : ℕ) where
  one_bit : max (w % 2) (p % 2) < 2
  one_bit =
      let a : w % 2 ≤ 1 = omega arith in
      let b : p % 2 ≤ 1 = omega arith in
      let c : max (w % 2) (p % 2) ≤ 1 = max-le a b in
      omega (arith, c)

  or_half : bit_or w p / 2 ≡ bit_or (w / 2) (p / 2)
  or_half = ap (λ (x : ℕ). x / 2) (or_step w p) ∙ halved (bit_or (w / 2) (p / 2)) (max (w % 2) (p % 2)) one_bit

  or_low : bit_or w p % 2 ≡ max (w % 2) (p % 2)
  or_low = ap (λ (x : ℕ). x % 2) (or_step w p) ∙ lowest (bit_or (w / 2) (p / 2)) (max (w % 2) (p % 2)) one_bit

power_half : (k : ℕ) → 2 ^ suc k / 2 ≡ 2 ^ k
power_half k = rw (pow-suc 2 k) (omega arith)

power_low : (k : ℕ) → 2 ^ suc k % 2 ≡ 0
power_low k = rw (pow-suc 2 k) (omega arith)

eqb-suc : (j k : ℕ) → eqb (suc j) (suc k) ≡ eqb j k
eqb-suc j k = go (eqb j k) refl
  where
    go : (b : Bool) → eqb j k ≡ b → eqb (suc j) (suc k) ≡ b
    go true e = eq-eqb (suc j) (suc k) (ap suc (eqb-true j k e))
    go false e = ne_eqb (suc j) (suc k) (λ f. eqb-false j k e (omega arith))

-- the bits after one of them was set
pub bit_set : (j k w : ℕ) → bit j (bit_or w (2 ^ k)) ≡ eqb j k || bit j w
unfolding bit
bit_set zero zero w =
    let m : w % 2 ≤ 1 = omega arith in
    let e : bit_or w 1 % 2 ≡ 1 = or_low w 1 ∙ max-eq_right m in
    eq-eqb _ 1 e
bit_set zero (suc k) w =
    let e : bit_or w (2 ^ suc k) % 2 ≡ w % 2 = or_low w (2 ^ suc k) ∙ ap (λ (x : ℕ). max (w % 2) x) (power_low k) ∙ max-zero (w % 2) in
    rw (e, ne_eqb 0 (suc k) (λ f. omega arith))
bit_set (suc j) zero w =
    let e : bit_or w 1 / 2 ≡ w / 2 = or_half w 1 ∙ or_zero_r (w / 2) in
    rw (e, ne_eqb (suc j) 0 (λ f. omega arith))
bit_set (suc j) (suc k) w =
    let e : bit_or w (2 ^ suc k) / 2 ≡ bit_or (w / 2) (2 ^ k) = or_half w (2 ^ suc k) ∙ ap (λ (x : ℕ). bit_or (w / 2) x) (power_half k) in
    rw (e, eqb-suc j k) (bit_set j k (w / 2))

pub bit-none : (k : ℕ) → bit k 0 ≡ false
unfolding bit
bit-none zero = refl
bit-none (suc k) = bit-none k

-- a word of ones
ones : ℕ → ℕ
ones zero = 0
ones (suc n) = ones n * 2 + 1

bit_ones : (k n : ℕ) → k < n → bit k (ones n) ≡ true
unfolding bit ones
bit_ones k zero h = absurd (omega arith)
bit_ones zero (suc n) h = eq-eqb _ 1 (lowest (ones n) 1 (omega arith))
bit_ones (suc k) (suc n) h = rw (halved (ones n) 1 (omega arith)) (bit_ones k n (omega arith))

pub bit_full : (k : ℕ) → k < 32 → bit k 0xFFFFFFFF ≡ true
unfolding ones
bit_full k h = bit_ones k 32 h
