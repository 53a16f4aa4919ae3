-- Laws of entries of one length among the words of a section.
use Rattle.std.specs.Prelude.{ℕ, zero, suc, ◌+◌, ◌*◌, ◌/◌, ◌≤◌, ◌<◌, ◌≡◌, Bool, true, false, nat_lt, refl}
use Rattle.std.proofs.Common.{suc-mul, mul-le-mul_right, div-mul-le_self, div-add-mod', mod-lt, ltb-true, ltb-false, arith}

-- a number that is not 0
pub positive : (n : ℕ) → (n ≡ 0 → ⊥) → 0 < n
positive zero f = absurd (f refl)
positive (suc n) f = omega arith

-- a whole entry lies within the words, and no whole entry is left behind the last one
pub entry_fits : (n step k : ℕ) → k < n / step → k * step + step ≤ n
entry_fits n step k h =
    let up : suc k * step ≤ n / step * step = mul-le-mul_right step (omega arith) in
    omega (arith, div-mul-le_self n step, suc-mul k step)

pub entries_end : (n step : ℕ) → 1 ≤ step → n < n / step * step + step
entries_end n step h = omega (arith, div-add-mod' n step, mod-lt n {m = step} (omega arith))

-- an entry that lies within the words is counted
pub entry_counts : (n step k : ℕ) → 1 ≤ step → k * step + step ≤ n → k < n / step
entry_counts n step k s h = go (nat_lt k (n / step)) refl
  where
    go : (b : Bool) → nat_lt k (n / step) ≡ b → k < n / step
    go true e = ltb-true k (n / step) e
    go false e =
        let past : n / step ≤ k = ltb-false k (n / step) e in
        let up : n / step * step ≤ k * step = mul-le-mul_right step past in
        absurd (omega (arith, entries_end n step s))
