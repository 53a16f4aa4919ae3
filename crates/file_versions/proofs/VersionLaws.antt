-- What a file of a version lacks, row by row, and what an answer says of it.
use Prim.Native.Nat.{ℕ, ◌≤◌}
use native.Mathlib.Omega.{arith}
use mathlib.Core.Path.{◌≡◌, subst}
use mathlib.Core.Bool.{Bool, true, false, cond}
use mathlib.Core.Option.{none, some, some-injective, none-ne-some}
use lib.Dec.{eqb}
use borrow.Author.Tests.{ne_eqb}
use Rattle.std.specs.Prelude.{Option, Some, None}
use Rattle.file_versions.specs.Versions.{lacks, Lacks}

-- The rows of the versions.
pub version_1 : (v : ℕ) → v ≡ 1 → lacks v ≡ some 2
version_1 v e = rw e

pub version_2 : (v : ℕ) → v ≡ 2 → lacks v ≡ some 1
version_2 v e = rw e

pub version_3 : (v : ℕ) → v ≡ 3 → lacks v ≡ some 0
version_3 v e = rw e

pub version_4 : (v : ℕ) → v ≡ 4 → lacks v ≡ some 0
version_4 v e = rw e

pub not_named : (v : ℕ) → (v ≡ 1 → ⊥) → (v ≡ 2 → ⊥) → (v ≡ 3 → ⊥) → (v ≡ 4 → ⊥) → lacks v ≡ none
not_named v m n o p = rw (ne_eqb v 1 m, ne_eqb v 2 n, ne_eqb v 3 o, ne_eqb v 4 p)

-- what the answer says of a version, where it is known
pub lack_given : (v : ℕ) (r : Option ℕ) (k : ℕ) → r ≡ Some k → Lacks v r → lacks v ≡ some k
lack_given v r k e h = subst (λ (x : Option ℕ). Lacks v x) e h

pub lack_none : (v : ℕ) (r : Option ℕ) → r ≡ None → Lacks v r → lacks v ≡ none
lack_none v r e h = subst (λ (x : Option ℕ). Lacks v x) e h

-- no version lacks more than two
pub lacks_few : (v k : ℕ) → lacks v ≡ some k → k ≤ 2
lacks_few v k e = go (eqb v 1) (eqb v 2) (eqb v 3) (eqb v 4) e
  where
    go : (a b c d : Bool) → cond a (some 2) (cond b (some 1) (cond c (some 0) (cond d (some 0) none))) ≡ some k → k ≤ 2
    go true b c d h = let q : 2 ≡ k = some-injective 2 k h in omega arith
    go false true c d h = let q : 1 ≡ k = some-injective 1 k h in omega arith
    go false false true d h = let q : 0 ≡ k = some-injective 0 k h in omega arith
    go false false false true h = let q : 0 ≡ k = some-injective 0 k h in omega arith
    go false false false false h = absurd (none-ne-some k h)
