-- Laws of the runs of codepoints that rule 8 asks.
use Prim.Native.Nat.{ℕ, suc, ◌+◌, ◌-◌, ◌*◌, ◌≤◌, ◌<◌}
use native.Mathlib.Numerals.{add-one}
use native.Mathlib.Omega.{arith}
use mathlib.Core.Path.{◌≡◌, refl, sym, ◌∙◌}
use mathlib.Core.Bool.{Bool, true, false}
use mathlib.Core.List.{◌∷◌}
use Rattle.lists.specs.Lists.{all}
use Rattle.table.specs.Table.{Table}
use Rattle.text.specs.QuickCheck.{is_second}
use Rattle.soundness.specs.Valid.{counted_from}
use Rattle.soundness.specs.QuickCheck.{passes8, syllables_of, second_syllables}
use Rattle.soundness.specs.Concerned.{leading_passes, syllables_pass}

counted_next : (c to : ℕ) → c < to → counted_from c (to - c) ≡ c ∷ counted_from (c + 1) (to - (c + 1))
unfolding counted_from
counted_next c to h = let e : to - c ≡ suc (to - (c + 1)) = omega arith in rw (e, add-one c)

-- The walk over the codepoints from a up to b has come to c: p of those left is p of all.
pub record RunSoFar (p : ℕ → Bool) (a b c : ℕ) : Type 0 where
  pub same : all p (counted_from a (b - a)) ≡ all p (counted_from c (b - c))

module _ (p : ℕ → Bool) (a b : ℕ) where
  pub run_start : RunSoFar p a b a
  run_start = record { same = refl }

  module _ (c : ℕ) (w : RunSoFar p a b c) where
    pub run_broken : c < b → p c ≡ false → false ≡ all p (counted_from a (b - a))
    run_broken h e = rw (w.same, counted_next c b h, e)

    pub run_on : c < b → p c ≡ true → RunSoFar p a b (c + 1)
    run_on h e = let k : all p (counted_from c (b - c)) ≡ all p (counted_from (c + 1) (b - (c + 1))) = rw (counted_next c b h, e) in record { same = w.same ∙ k }

    pub run_done : b ≤ c → true ≡ all p (counted_from a (b - a))
    unfolding counted_from
    run_done h = let e : b - c ≡ 0 = omega arith in rw (w.same, e)

-- the syllables of a leading consonant
module _ (t : Table) (l : ℕ) where
  pub leading_other : false ≡ is_second t (0x1100 + l) → true ≡ leading_passes t (0x1100 + l)
  leading_other e = rw (← e)

  pub leading-run : (from to : ℕ) (r : Bool) → true ≡ is_second t (0x1100 + l) → from ≡ 0xAC00 + l * 588 → to ≡ from + 588 → r ≡ all (passes8 t) (counted_from from (to - from)) → r ≡ leading_passes t (0x1100 + l)
  unfolding syllables_of
  leading-run from to r s e f k =
      let n : to - from ≡ 588 = omega (arith, f) in
      let m : 0xAC00 + (0x1100 + l - 0x1100) * 588 ≡ from = omega (arith, e) in
      rw (← s, m) (k ∙ rw n)

-- the leading consonants in turn
module _ (t : Table) (l : ℕ) (w : RunSoFar (leading_passes t) 0x1100 0x1113 (0x1100 + l)) where
  pub leading_broken : l < 19 → leading_passes t (0x1100 + l) ≡ false → false ≡ all (passes8 t) (second_syllables t)
  leading_broken h e = run_broken (leading_passes t) 0x1100 0x1113 (0x1100 + l) w (omega arith) e ∙ sym (syllables_pass t)

  pub leading_on : l < 19 → leading_passes t (0x1100 + l) ≡ true → RunSoFar (leading_passes t) 0x1100 0x1113 (0x1100 + (l + 1))
  leading_on h e =
      let k : 0x1100 + l + 1 ≡ 0x1100 + (l + 1) = omega arith in
      rw k at (run_on (leading_passes t) 0x1100 0x1113 (0x1100 + l) w (omega arith) e)

  pub leading_done : 19 ≤ l → true ≡ all (passes8 t) (second_syllables t)
  leading_done h = run_done (leading_passes t) 0x1100 0x1113 (0x1100 + l) w (omega arith) ∙ sym (syllables_pass t)
