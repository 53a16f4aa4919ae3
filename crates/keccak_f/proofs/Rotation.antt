-- What the library says of a rotation is the rotation of the definition.
use Prim.Native.Nat.{ℕ, zero, suc, ◌+◌, ◌-◌, ◌*◌, ◌/◌, ◌%◌, ◌^◌, ◌<◌}
use native.Mathlib.Omega.{arith}
use mathlib.Core.Path.{◌≡◌, sym, ap, ap₂, ◌∙◌, subst}
use lib.Bits.{bit_or, or_self}
use native.Mathlib.Nat.{add-zero, mul-one, mod-eq_of_lt, div-eq_of_lt}
use Rattle.std.specs.Int.{w64, rotate_left}
use Rattle.bits.specs.Fields.{shifted_out, turned}
use Rattle.keccak_f.specs.Permutation.{rotate}

-- what the library says of a turn by less than the width
pub turns_rotate : (a n : ℕ) → a < 2 ^ 64 → n < 64 → rotate_left w64 a n ≡ rotate a n
unfolding rotate
turns_rotate a zero h l =
    let same : a * 1 % 2 ^ 64 ≡ a = rw (mul-one a) (mod-eq_of_lt h) in
    let whole : a / 1 ≡ a = omega arith in
    let none : a / 2 ^ 64 ≡ 0 = div-eq_of_lt h in
    ap₂ bit_or same whole ∙ or_self a ∙ sym (ap₂ (λ (x y : ℕ). x + y) same none ∙ add-zero a)
turns_rotate a (suc m) h l =
    let n = suc m in
    let j = 64 - n in
    let width : 64 ≡ j + n = omega arith in
    let other : 64 ≡ n + j = omega arith in
    let small : a < 2 ^ (n + j) = subst (λ (w : ℕ). a < 2 ^ w) other h in
    let places : n % 64 ≡ n = omega arith in
    let back : (64 - n % 64) % 64 ≡ j = omega arith in
    let up : a * 2 ^ (n % 64) % 2 ^ 64 ≡ a * 2 ^ n % 2 ^ (j + n) = ap₂ (λ (k w : ℕ). a * 2 ^ k % 2 ^ w) places width in
    ap₂ bit_or up (ap (λ (k : ℕ). a / 2 ^ k) back)
    ∙ turned j n small
    ∙ ap (λ (x : ℕ). x + a / 2 ^ j) (sym (ap (λ (w : ℕ). a * 2 ^ n % 2 ^ w) width ∙ shifted_out j n a))
