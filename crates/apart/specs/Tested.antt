-- Whether the entries of a section stand apart, by a test of each and its next.
use Rattle.std.specs.Prelude.{ℕ, zero, suc, ◌+◌, ◌-◌, ◌*◌, ◌/◌, ◌<◌, ◌≤◌, ◌≡◌, refl, Bool, true, false, ◌&&◌, List, length, get_or, leb, ltb}
use Rattle.std.proofs.Common.{add-one, arith, leb-true, ltb-true, ltb-false}
use Rattle.lists.specs.Laws.{both_left, both_right}
use Rattle.apart.specs.Apart.{Apart}

-- entries each of which is apart from the next are apart
module _ (step last : ℕ) (ws : List ℕ) where
  module _ (w : (k : ℕ) → k < length ws / step → get_or ws (k * step) 0 ≤ get_or ws (k * step + last) 0)
      (n : (k : ℕ) → k + 1 < length ws / step → get_or ws (k * step + last) 0 < get_or ws ((k + 1) * step) 0) where
    far : (d i : ℕ) → i + 1 + d < length ws / step → get_or ws (i * step + last) 0 < get_or ws ((i + 1 + d) * step) 0
    far zero i h =
        let here : i + 1 + 0 ≡ i + 1 = omega arith in
        rw here (n i (omega arith))
    far (suc d) i h =
        let here : i + 1 + suc d ≡ i + 1 + d + 1 = omega (arith, add-one d) in
        let room : i + 1 + d + 1 < length ws / step = omega (arith, add-one d) in
        rw here (omega (arith, far d i (omega arith), w (i + 1 + d) (omega arith), n (i + 1 + d) room))

    pub chained : Apart step last ws
    chained =
        record {
          whole = w;
          apart = λ i j h l. let here : i + 1 + (j - (i + 1)) ≡ j = omega arith in rw here at (far (j - (i + 1)) i (omega arith));
        }

-- every number below n passes
unfoldable pub all_below : ℕ → (ℕ → Bool) → Bool
all_below zero f = true
all_below (suc n) f = f n && all_below n f

below_passes : (n : ℕ) (f : ℕ → Bool) → all_below n f ≡ true → (k : ℕ) → k < n → f k ≡ true
unfolding all_below
below_passes zero f h k l = absurd (omega arith)
below_passes (suc n) f h k l = go (λ m. below_passes n f (both_right (f n) (all_below n f) h) k m) (ltb k n) refl
  where
    go : (k < n → f k ≡ true) → (b : Bool) → ltb k n ≡ b → f k ≡ true
    go before true e = before (ltb-true k n e)
    go before false e =
        let m : n ≤ k = ltb-false k n e in
        let same : k ≡ n = omega arith in
        rw same (both_left (f n) (all_below n f) h)

-- the test
abbrev pub stand_apart : ℕ → ℕ → List ℕ → Bool
stand_apart step last ws =
    let n = length ws / step in
    all_below n (λ k. leb (get_or ws (k * step) 0) (get_or ws (k * step + last) 0))
    && all_below (n - 1) (λ k. ltb (get_or ws (k * step + last) 0) (get_or ws ((k + 1) * step) 0))

pub tested_apart : (step last : ℕ) (ws : List ℕ) → stand_apart step last ws ≡ true → Apart step last ws
tested_apart step last ws h =
    chained step last ws
    (λ k l. leb-true (first k) (final k) (below_passes n whole (both_left (all_below n whole) (all_below (n - 1) next) h) k l))
    (λ k l. ltb-true (final k) (first (k + 1)) (below_passes (n - 1) next (both_right (all_below n whole) (all_below (n - 1) next) h) k (omega arith)))
  where
    n : ℕ
    n = length ws / step

    first : ℕ → ℕ
    first k = get_or ws (k * step) 0

    final : ℕ → ℕ
    final k = get_or ws (k * step + last) 0

    whole : ℕ → Bool
    whole k = leb (first k) (final k)

    next : ℕ → Bool
    next k = ltb (final k) (first (k + 1))
