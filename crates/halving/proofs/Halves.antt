-- Laws of a search by halves over entries of one length.
use Rattle.std.proofs.Common.{◌≡◌, ℕ, ◌+◌, ◌-◌, ◌*◌, ◌/◌, ◌%◌, ◌^◌, ◌<◌, ◌≤◌, Bool, true, false, cond, leb, List, length, get_or, refl, ◌∙◌, div-le_self, arith, leb-false, leb-true}
use lib.Bits.{bit_and, and_mask, and_zero_r}
use Rattle.apart.specs.Entries.{entry_fits}
use Rattle.halving.specs.Halving.{Rising, Ranked, mask_most, if_most}

-- a wrapped difference has the upper bits just where it wraps
pub mask_wrapped : (x c r : ℕ) → x < 2 ^ 32 → c < 2 ^ 32 → r < 2 ^ 64 → (r + (c + 1)) % 2 ^ 64 ≡ x → r / 2 ^ 32 * 4294967297 ≡ mask_most x c
unfolding mask_most
mask_wrapped x c r h l m e = go (leb x c) refl
  where
    go : (t : Bool) → leb x c ≡ t → r / 2 ^ 32 * 4294967297 ≡ cond t (2 ^ 64 - 1) 0
    go true f =
        let k : x ≤ c = leb-true x c f in
        let up : r / 2 ^ 32 ≡ 2 ^ 32 - 1 = omega arith in
        omega arith
    go false f =
        let k : c < x = leb-false x c f in
        let none : r / 2 ^ 32 ≡ 0 = omega arith in
        omega arith

-- a number under a mask
pub masked : (n x c m : ℕ) → n < 2 ^ 64 → m ≡ mask_most x c → bit_and n m ≡ if_most n x c
unfolding mask_most if_most
masked n x c m h e = rw e (go (leb x c))
  where
    go : (t : Bool) → bit_and n (cond t (2 ^ 64 - 1) 0) ≡ cond t n 0
    go true = and_mask n 64 ∙ omega arith
    go false = and_zero_r n

pub if_most_least : (n x c r : ℕ) → r ≡ if_most n x c → r ≤ n
unfolding if_most
if_most_least n x c r e = go (leb x c) e
  where
    go : (t : Bool) → r ≡ cond t n 0 → r ≤ n
    go true f = omega arith
    go false f = omega arith

-- the number of entries that start at or below c is from low to n behind it
pub record Halving (ws : List ℕ) (step c low n : ℕ) : Type 0 where
  pub some : 0 < n
  pub inside : low + n ≤ length ws / step
  pub room : low + n ≤ length ws
  pub below : Rising step ws → (k : ℕ) → k < low → get_or ws (k * step) 0 ≤ c
  pub above : Rising step ws → (k : ℕ) → low + n ≤ k → k < length ws / step → c < get_or ws (k * step) 0

module _ (ws : List ℕ) (step c : ℕ) where
  pub halving_start : 0 < length ws / step → Halving ws step c 0 (length ws / step)
  halving_start h =
      record { some = h; inside = omega arith; room = omega (arith, div-le_self (length ws) step); below = λ up k l. absurd (omega arith); above = λ up k l m. absurd (omega arith) }

  pub none_ranked : length ws / step ≡ 0 → Ranked ws step c 0
  none_ranked e = record { inside = omega arith; below = λ up k h. absurd (omega arith); above = λ up k h l. absurd (omega arith) }

module _ (ws : List ℕ) (step c low n : ℕ) (w : Halving ws step c low n) where
  -- the entry in the middle, and the one at the end, lie within the words
  pub middle_fits : (half : ℕ) → 1 ≤ half → half ≤ n → (low + half - 1) * step + step ≤ length ws
  middle_fits half h l = entry_fits (length ws) step (low + half - 1) (omega (arith, w.inside))

  pub low_fits : low * step + step ≤ length ws
  low_fits = entry_fits (length ws) step low (omega (arith, w.inside, w.some))

  pub halving_on : (half : ℕ) → 1 ≤ half → half + half ≤ n → (r : ℕ) → r ≡ if_most half (get_or ws ((low + half - 1) * step) 0) c
      → Halving ws step c (low + r) (n - half)
  unfolding if_most
  halving_on half h l r e = go (leb (get_or ws ((low + half - 1) * step) 0) c) refl e
    where
      go : (t : Bool) → leb (get_or ws ((low + half - 1) * step) 0) c ≡ t → r ≡ cond t half 0 → Halving ws step c (low + r) (n - half)
      go true f g =
          let first : get_or ws ((low + half - 1) * step) 0 ≤ c = leb-true _ _ f in
          record {
            some = omega arith;
            inside = omega (arith, w.inside);
            room = omega (arith, w.room);
            below = λ up k b. omega (arith, up.up k (low + half - 1) (omega arith) (omega (arith, w.inside)));
            above = λ up k b i. w.above up k (omega arith) i;
          }
      go false f g =
          let first : c < get_or ws ((low + half - 1) * step) 0 = leb-false _ _ f in
          record {
            some = omega arith;
            inside = omega (arith, w.inside);
            room = omega (arith, w.room);
            below = λ up k b. w.below up k (omega arith);
            above = λ up k b i. omega (arith, up.up (low + half - 1) k (omega arith) i);
          }

  pub halving_stop : n ≤ 1 → (r : ℕ) → r ≡ if_most 1 (get_or ws (low * step) 0) c → Ranked ws step c (low + r)
  unfolding if_most
  halving_stop h r e = go (leb (get_or ws (low * step) 0) c) refl e
    where
      go : (t : Bool) → leb (get_or ws (low * step) 0) c ≡ t → r ≡ cond t 1 0 → Ranked ws step c (low + r)
      go true f g =
          let first : get_or ws (low * step) 0 ≤ c = leb-true _ _ f in
          record {
            inside = omega (arith, w.inside, w.some);
            below = λ up k b. omega (arith, up.up k low (omega arith) (omega (arith, w.inside, w.some)));
            above = λ up k b i. w.above up k (omega arith) i;
          }
      go false f g =
          let first : c < get_or ws (low * step) 0 = leb-false _ _ f in
          record {
            inside = omega (arith, w.inside, w.some);
            below = λ up k b. w.below up k (omega arith);
            above = λ up k b i. omega (arith, up.up low k (omega arith) i);
          }
