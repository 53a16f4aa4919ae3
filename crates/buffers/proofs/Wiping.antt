-- What is read back of words that were cleared.
use Prim.Native.Nat.{ℕ, ◌%◌, ◌<◌}
use native.Mathlib.Nat.{mod-lt}
use native.Mathlib.Omega.{arith}
use mathlib.Core.Path.{◌≡◌, sym, ◌∙◌, ap}
use mathlib.Core.Bool.{Bool, true, false}
use mathlib.Core.List.{List}
use lib.ListN.{length, get_or, replicate, length-replicate, get_or-replicate}
use lib.Dec.{eqb}
use borrow.Author.Tests.{eq-eqb}
use Rattle.buffers.specs.Writes.{Wiped}

module _ (before after : List ℕ) (e : after ≡ replicate (length before) 0) (seed n : ℕ) (some : n ≡ 0 → ⊥) where
  pub wipe_inside : n ≡ length after → seed % n < length after
  wipe_inside l = let h : seed % n < n = mod-lt seed (omega arith) in omega arith

  pub wipe_read : n ≡ length after → Wiped before after (eqb (get_or after (seed % n) 0) 0)
  wipe_read l =
      let long : length after ≡ length before = ap length e ∙ length-replicate {A = ℕ} (length before) 0 in
      let z : get_or after (seed % n) 0 ≡ 0 = rw e (get_or-replicate (length before) (seed % n) 0 0 (omega (arith, wipe_inside l))) in
      record { zeros = e; read = eq-eqb (get_or after (seed % n) 0) 0 z }

-- what is read back is never another word
pub wiped_always : (before after : List ℕ) (r : Bool) → Wiped before after r → r ≡ false → ⊥
wiped_always before after r w e =
    let f : ◌≡◌ {A = Bool} false true = sym e ∙ w.read in
    let z : ◌≡◌ {A = ℕ} 0 1 = cc in
    omega arith
