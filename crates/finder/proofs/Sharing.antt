-- The loop that finds a common start.
use Prim.Native.Nat.{ℕ, ◌+◌, ◌<◌}
use native.Mathlib.Omega.{arith}
use native.Mathlib.Numerals.{add-one}
use mathlib.Core.Path.{◌≡◌, refl}
use mathlib.Core.List.{List}
use lib.ListN.{length, get_or}
use lib.Seq.{take-suc}
use Rattle.finder.specs.Shared.{Shared}

pub shared_start : (a b : List ℕ) → Shared a b 0
shared_start a b = record { left = omega arith; right = omega arith; same = refl }

-- one item more
pub shared_more : (a b : List ℕ) (k : ℕ) → Shared a b k → k < length a → k < length b → get_or a k 0 ≡ get_or b k 0 → Shared a b (k + 1)
shared_more a b k w h i e =
    record { left = omega arith; right = omega arith; same = rw (add-one k, take-suc a k 0 h, take-suc b k 0 i, w.same, e) refl }
