-- How reading goes on: past a sequence that starts the rest, or no further.
use Prim.Native.Nat.{ℕ, zero, suc, ◌+◌, ◌-◌, ◌≤◌}
use native.Mathlib.Omega.{arith}
use Rattle.std.specs.Prelude.{◌≡◌, refl, true, take, drop, ltb}
use Rattle.std.proofs.Common.{ap, ◌∙◌, length-take}
use mathlib.Core.List.{List, [], ◌∷◌, ◌++◌}
use Rattle.std.proofs.Math.Option.{none}
use Rattle.std.proofs.Math.ListN.{length}
use Rattle.std.proofs.Math.Seq.{take-append_seam}
use Rattle.lists.specs.Lists.{same_list}
use Rattle.lists.specs.Laws.{of_each, both}
use Rattle.lists.specs.Elements.{list_same}
use Rattle.answers.specs.Verdict.{accepted, refused, next}
use Rattle.scalar.specs.Scalar.{is_scalar}
use Rattle.utf8_scheme.specs.Scheme.{octets, starts_with, first, read_from}
use Rattle.utf8_scheme.specs.Inverse.{starts_octets, starts_first}

-- a sequence has one to four octets
pub octets_few : (c : ℕ) → (1 ≤ length (octets c)) × (length (octets c) ≤ 4)
unfolding octets
octets_few c =
    of_each Few (ltb c 0x80) _ _ (omega arith, omega arith)
    (of_each Few (ltb c 0x800) _ _ (omega arith, omega arith)
    (of_each Few (ltb c 0x10000) _ _ (omega arith, omega arith) (omega arith, omega arith)))
  where
    Few : List ℕ → Type 0
    Few l = (1 ≤ length l) × (length l ≤ 4)

-- octets start with themselves
pub octets_start : (c : ℕ) (r : List ℕ) → is_scalar c ≡ true → starts_with (octets c ++ r) c ≡ true
unfolding starts_with
octets_start c r h =
    both (is_scalar c) (same_list (octets c) (take (length (octets c)) (octets c ++ r))) h
    (rw (take-append_seam (octets c) r) (list_same (octets c)))

-- bytes of a sequence that was read are passed over
pub skipped : (at k : ℕ) (s : List ℕ) → k ≤ length s → read_from at k s ≡ read_from (at + k) 0 (drop k s)
unfolding read_from
skipped at zero s h = let e : at + 0 ≡ at = omega arith in rw e
skipped at (suc k) [] h = absurd (omega arith)
skipped at (suc k) (b ∷ s) h = let e : suc at + k ≡ at + suc k = omega arith in skipped (suc at) k s (omega arith) ∙ rw e

-- the rest starts with the octets of c: it is as long, and reading goes on behind them
module _ (at c : ℕ) where
  pub sequence_long : (s : List ℕ) → starts_with s c ≡ true → length (octets c) ≤ length s
  sequence_long s h = omega (arith, simp length-take at (ap length (starts_octets s c h)))

  pub sequence-read : (s : List ℕ) → starts_with s c ≡ true
      → read_from at 0 s ≡ next (read_from (at + length (octets c)) 0 (drop (length (octets c)) s)) (λ cs. accepted (c ∷ cs))
  unfolding read_from
  sequence-read [] h = absurd (omega (arith, sequence_long [] h, octets_few c))
  sequence-read (b ∷ s) h = rw (starts_first (b ∷ s) c h) (behind (length (octets c) - 1) (omega (arith, octets_few c)) (omega (arith, sequence_long (b ∷ s) h, octets_few c)))
    where
      behind : (k : ℕ) → length (octets c) ≡ suc k → k ≤ length s
          → next (read_from (suc at) k s) (λ cs. accepted (c ∷ cs))
          ≡ next (read_from (at + length (octets c)) 0 (drop (length (octets c)) (b ∷ s))) (λ cs. accepted (c ∷ cs))
      behind k e l =
          let p : at + suc k ≡ suc at + k = omega arith in
          rw (e, p, skipped (suc at) k s l)

-- the rest starts with the octets of none
pub ill_formed_read : (at : ℕ) (s : List ℕ) → 1 ≤ length s → first s ≡ none → read_from at 0 s ≡ refused 30 at
unfolding read_from
ill_formed_read at [] h e = absurd (omega arith)
ill_formed_read at (b ∷ s) h e = rw e

-- the end
pub end_read : (at : ℕ) (s : List ℕ) → length s ≤ 0 → read_from at 0 s ≡ accepted []
unfolding read_from
end_read at [] h = refl
end_read at (b ∷ s) h = absurd (omega arith)
