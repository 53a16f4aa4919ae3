-- The test of a scalar value.
use Prim.Native.Nat.{ℕ, ◌<◌, ◌≤◌}
use mathlib.Core.Path.{◌≡◌, refl}
use mathlib.Core.Bool.{Bool, true, false, not}
use lib.Dec.{leb, ltb}
use borrow.Author.Tests.{lt-leb, le-leb, lt-ltb, le-ltb, leb-true, leb-false}
use Rattle.scalar.specs.Scalar.{is_scalar}

-- the three ways in which the test of a scalar value ends
pub scalar_over : (c : ℕ) → 0x10FFFF < c → false ≡ is_scalar c
scalar_over c h = rw (lt-leb c 0x10FFFF h)

pub scalar_low : (c : ℕ) → c ≤ 0x10FFFF → c < 0xD800 → true ≡ is_scalar c
scalar_low c h k = rw (le-leb c 0x10FFFF h, lt-leb 0xD800 c k)

pub scalar_rest : (c : ℕ) → c ≤ 0x10FFFF → 0xD800 ≤ c → ltb 0xDFFF c ≡ is_scalar c
scalar_rest c h k = rw (le-leb c 0x10FFFF h, le-leb 0xD800 c k) (go (leb c 0xDFFF) refl)
  where
    go : (b : Bool) → leb c 0xDFFF ≡ b → ltb 0xDFFF c ≡ not b
    go true e = le-ltb 0xDFFF c (leb-true c 0xDFFF e)
    go false e = lt-ltb 0xDFFF c (leb-false c 0xDFFF e)
