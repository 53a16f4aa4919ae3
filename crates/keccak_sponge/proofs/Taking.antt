-- The loop that takes the bytes of a piece, and the steps that finish.
use Prim.Native.Nat.{ℕ, ◌+◌, ◌-◌, ◌%◌, ◌<◌, ◌≤◌}
use native.Mathlib.Numerals.{add-one}
use native.Mathlib.Omega.{arith}
use mathlib.Core.Path.{◌≡◌, sym, ap, ap₂, ◌∙◌}
use mathlib.Core.List.{List}
use lib.ListN.{length, get_or, drop}
use lib.Seq.{drop-cons, drop-length}
use Rattle.keccak_f.specs.Permutation.{keccak_f}
use Rattle.keccak_bytes.specs.Sponge.{rate, squeezed}
use Rattle.keccak_bytes.specs.XorByte.{xor_byte}
use Rattle.keccak_sponge.specs.declared.Keccak256.{Keccak256}
use Rattle.keccak_sponge.specs.State.{state, filled, taken, digested}
use Rattle.keccak_sponge.specs.Filled.{block_full, block_open}

-- the bytes of m from i on are still to be taken, and give k
pub record Taking (k : Keccak256) (m s : List ℕ) (n i : ℕ) : Type 0 where
  pub below : n < rate
  pub within : i ≤ length m
  pub rest : taken (state s n) (drop i m) ≡ k

module _ {k : Keccak256} {m s : List ℕ} {n i : ℕ} (t : Taking k m s n i) where
  -- one byte is taken
  next : i < length m → taken (filled (xor_byte s n (get_or m i 0)) (n + 1)) (drop (i + 1) m) ≡ k
  unfolding taken
  next h = rw (add-one i) (sym (ap (taken (state s n)) (drop-cons m i 0 h)) ∙ t.rest)

  module _ {s' s'' : List ℕ} {n'' : ℕ} (h : i < length m) (e : s' ≡ xor_byte s n (get_or m i 0)) where
    pub take_full : n + 1 ≡ rate → s'' ≡ keccak_f s' → n'' ≡ 0 → Taking k m s'' n'' (i + 1)
    take_full f g z =
        record {
          below = omega arith;
          within = omega arith;
          rest =
              ap₂ (λ (x : List ℕ) (y : ℕ). taken (state x y) (drop (i + 1) m)) (g ∙ ap keccak_f e) z
              ∙ sym (ap (λ (x : Keccak256). taken x (drop (i + 1) m)) (block_full (xor_byte s n (get_or m i 0)) (n + 1) f))
              ∙ next h;
        }

    pub take_open : (n + 1 ≡ rate → ⊥) → s'' ≡ s' → n'' ≡ n + 1 → Taking k m s'' n'' (i + 1)
    take_open f g z =
        record {
          below = omega (arith, t.below);
          within = omega arith;
          rest =
              ap₂ (λ (x : List ℕ) (y : ℕ). taken (state x y) (drop (i + 1) m)) (g ∙ e) z
              ∙ sym (ap (λ (x : Keccak256). taken x (drop (i + 1) m)) (block_open (xor_byte s n (get_or m i 0)) (n + 1) f))
              ∙ next h;
        }

  -- at the end
  pub take-stop : length m ≤ i → state s n ≡ k
  unfolding taken
  take-stop h =
      let e : i ≡ length m = omega (arith, t.within) in
      sym (ap (taken (state s n)) (ap (λ (j : ℕ). drop j m) e ∙ drop-length m)) ∙ t.rest

pub finish : (k : Keccak256) (s t u d : List ℕ) → s ≡ xor_byte k.lanes (k.fill % rate) 0x01 → t ≡ xor_byte s (rate - 1) 0x80
    → u ≡ keccak_f t → d ≡ squeezed u → d ≡ digested k
unfolding digested
finish k s t u d e f g h = h ∙ ap squeezed (g ∙ ap keccak_f (f ∙ ap (λ (x : List ℕ). xor_byte x (rate - 1) 0x80) e))
