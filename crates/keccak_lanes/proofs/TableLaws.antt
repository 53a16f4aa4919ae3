-- What the code needs of its tables.
use Prim.Native.Nat.{ℕ, ◌+◌, ◌*◌, ◌/◌, ◌%◌, ◌<◌}
use native.Mathlib.Omega.{arith}
use mathlib.Core.Path.{◌≡◌, refl, ap, ◌∙◌}
use mathlib.Core.List.{List, map}
use lib.ListN.{get_or, get_or-map}
use Rattle.keccak_f.specs.Tabulate.{tabulate, get_d_tabulate}
use Rattle.keccak_f.specs.Permutation.{offsets}

-- an offset is below 64
low : offsets ≡ map (λ n. n % 64) offsets
unfolding offsets
low = refl

pub offset_low : (i : ℕ) → get_or offsets i 0 < 64
offset_low i =
    let e : get_or offsets i 0 ≡ get_or offsets i 0 % 64 =
    ap (λ (l : List ℕ). get_or l i 0) low ∙ get_or-map (λ (n : ℕ). n % 64) offsets i 0 in
    omega arith

-- where pi takes the lane for place i from: lane (x + 3 y, x)
abbrev pub source_at : ℕ → ℕ
source_at i = (i % 5 + 3 * (i / 5)) % 5 + 5 * (i % 5 % 5)

unfoldable pub sources : List ℕ
sources = tabulate 25 source_at

pub source : (i : ℕ) → i < 25 → get_or sources i 0 ≡ source_at i
unfolding sources
source i h = get_d_tabulate 25 i source_at h

pub source_within : (i : ℕ) → i < 25 → get_or sources i 0 < 25
source_within i h = omega (arith, source i h)
