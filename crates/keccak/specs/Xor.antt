-- Laws of exclusive or that lib.Bits does not have: it is associative, and a byte below a shifted number adds to it.
use Rattle.std.specs.Prelude.{ℕ, zero, suc, ◌+◌, ◌*◌, ◌/◌, ◌%◌, ◌^◌, ◌<◌, ◌≡◌, refl}
use Rattle.std.proofs.Common.{add-zero, mul_assoc, mod-eq_of_lt, arith, sym, ap, ap₂, ◌∙◌, pow_pos, pow-add}
use Rattle.std.proofs.Math.Nat.{mul-add-mod_self_right}
use Rattle.std.proofs.Math.Arith.{bin_ind}
use Rattle.std.specs.Int.Bits.{bit_xor, differ, xor_step, xor_shifted}
use Rattle.std.proofs.lemmas.Nat.{xor_shr, xor_comm, xor_block}

-- of digits
digits_assoc : (x y z : ℕ) → x < 2 → y < 2 → z < 2 → differ (differ x y) z ≡ differ x (differ y z)
digits_assoc zero y z hx hy hz = refl
digits_assoc (suc zero) zero z hx hy hz = refl
digits_assoc (suc zero) (suc zero) zero hx hy hz = refl
digits_assoc (suc zero) (suc zero) (suc zero) hx hy hz = refl
digits_assoc (suc zero) (suc zero) (suc (suc z)) hx hy hz = absurd (omega (arith, hz))
digits_assoc (suc zero) (suc (suc y)) z hx hy hz = absurd (omega (arith, hy))
digits_assoc (suc (suc x)) y z hx hy hz = absurd (omega (arith, hx))

digit : (x y : ℕ) → x < 2 → y < 2 → differ x y < 2
digit zero y hx hy = hy
digit (suc zero) zero hx hy = hx
digit (suc zero) (suc zero) hx hy = omega arith
digit (suc zero) (suc (suc y)) hx hy = absurd (omega (arith, hy))
digit (suc (suc x)) y hx hy = absurd (omega (arith, hx))

low : (a b : ℕ) → bit_xor a b % 2 ≡ differ (a % 2) (b % 2)
low a b =
    ap (λ (n : ℕ). n % 2) (xor_step a b)
    ∙ mul-add-mod_self_right (bit_xor (a / 2) (b / 2)) 2 (differ (a % 2) (b % 2))
    ∙ mod-eq_of_lt (digit (a % 2) (b % 2) (omega arith) (omega arith))

pub xor_assoc : (a b c : ℕ) → bit_xor (bit_xor a b) c ≡ bit_xor a (bit_xor b c)
xor_assoc =
    bin_ind (λ (a : ℕ). (b c : ℕ) → bit_xor (bit_xor a b) c ≡ bit_xor a (bit_xor b c)) (λ b c. refl)
    (λ a ih b c.
    xor_step (bit_xor a b) c
    ∙ ap₂ (λ (h l : ℕ). bit_xor h (c / 2) * 2 + differ l (c % 2)) (xor_shr a b 1) (low a b)
    ∙ ap₂ (λ (h l : ℕ). h * 2 + l) (ih (b / 2) (c / 2))
    (digits_assoc (a % 2) (b % 2) (c % 2) (omega arith) (omega arith) (omega arith))
    ∙ sym (ap₂ (λ (h l : ℕ). bit_xor (a / 2) h * 2 + differ (a % 2) l) (xor_shr b c 1) (low b c))
    ∙ sym (xor_step a (bit_xor b c)))

-- a byte, and the bytes above it
pub byte_below : (b n k : ℕ) → b < 256 → bit_xor (b * 2 ^ (8 * k)) (n * 2 ^ (8 * (k + 1))) ≡ (b + 256 * n) * 2 ^ (8 * k)
byte_below b n k h =
    let up : n * 2 ^ (8 * (k + 1)) ≡ n * 256 * 2 ^ (8 * k) =
    ap (λ (e : ℕ). n * 2 ^ e) (omega arith)
    ∙ ap (λ (x : ℕ). n * x) (pow-add 2 8 (8 * k))
    ∙ sym (mul_assoc n 256 (2 ^ (8 * k))) in
    ap₂ bit_xor (sym (add-zero (b * 2 ^ (8 * k)))) (up ∙ sym (add-zero (n * 256 * 2 ^ (8 * k))))
    ∙ xor_block (8 * k) b (n * 256) 0 0 (pow_pos (8 * k)) (pow_pos (8 * k))
    ∙ add-zero (bit_xor b (n * 256) * 2 ^ (8 * k))
    ∙ ap (λ (x : ℕ). x * 2 ^ (8 * k)) (xor_comm b (n * 256) ∙ xor_shifted n 8 b h ∙ omega arith)
