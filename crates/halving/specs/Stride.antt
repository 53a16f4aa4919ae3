-- The law of a search by halves, over the stride, and its corollaries for pairs, triples and items.
use Rattle.std.specs.Prelude.{◌≡◌, ℕ, zero, suc, ◌+◌, ◌-◌, ◌*◌, ◌/◌, ◌<◌, ◌≤◌, Bool, true, false, cond, ◌&&◌, List, [], ◌∷◌, length, drop, ◌≢◌, nat_le, nat_lt, slice_index, slice_index_or, refl}
use Rattle.std.proofs.Common.{zero-mul, suc-mul, arith, ◌∙◌, length-drop, drop_of_length-le, leb-true, leb-false, le-leb, ltb-true, ltb-false, eq-eqb, ne_eqb}
use Rattle.lists.specs.Lists.{mem}
use Rattle.table.specs.Part.{in_pairs, class_among}
use Rattle.table.proofs.Lookups.{drop-next, drop-two, drop-three}
use Rattle.apart.specs.Apart.{Apart}
use Rattle.apart.specs.Entries.{entry_fits, entries_end}
use Rattle.halving.specs.Halving.{Rising, Ranked, FirstCovers, reaches, at_rank}

-- a test that c is covered does not pass where c is not
covers_not : (c a b : ℕ) → (a ≤ c → c ≤ b → ⊥) → (nat_le a c && nat_le c b) ≡ false
covers_not c a b n = go (nat_le a c) (nat_le c b) refl refl
  where
    go : (t u : Bool) → nat_le a c ≡ t → nat_le c b ≡ u → (t && u) ≡ false
    go true true e f = absurd (n (leb-true a c e) (leb-true c b f))
    go true false e f = refl
    go false u e f = refl

-- entries that are apart rise
pub apart-rising : (step last : ℕ) (ws : List ℕ) → Apart step last ws → Rising step ws
apart-rising step last ws a = record { up = λ i j h l. go i j h l (nat_lt i j) refl }
  where
    go : (i j : ℕ) → i ≤ j → j < length ws / step → (t : Bool) → nat_lt i j ≡ t → slice_index ws (i * step) ≤ slice_index ws (j * step)
    go i j h l true e =
        let k : i < j = ltb-true i j e in
        omega (arith, a.whole i (omega arith), a.apart i j k l)
    go i j h l false e =
        let k : j ≤ i = ltb-false i j e in
        let same : i ≡ j = omega arith in
        rw same (omega arith)

module _ {A : Type 0} (step last c : ℕ) (f : List ℕ → A) (none : A) (found : List ℕ → ℕ → A) (w : FirstCovers step last c f none found) (ws : List ℕ) where
  -- the first k entries do not cover c
  past : (k : ℕ) → k ≤ length ws / step → ((j : ℕ) → j < k → slice_index ws (j * step) ≤ c → c ≤ slice_index ws (j * step + last) → ⊥)
      → f ws ≡ f (drop (k * step) ws)
  past zero h n = rw zero-mul
  past (suc k) h n =
      past k (omega arith) (λ j l. n j (omega arith))
      ∙ w.miss ws (k * step) (entry_fits (length ws) step k (omega arith)) (n k (omega arith))
      ∙ rw suc-mul

  -- Entries that are apart: the first match is the entry that a search by halves comes to, or there is none.
  module _ (r : ℕ) (s : 1 ≤ step) (a : Apart step last ws) (q : Ranked ws step c r) where
    -- an entry that covers c is the last of the r
    only : (k : ℕ) → k < length ws / step → slice_index ws (k * step) ≤ c → c ≤ slice_index ws (k * step + last) → k + 1 ≡ r
    only k h x y = go (nat_lt k r) (nat_lt (k + 1) r) refl refl
      where
        up : Rising step ws
        up = apart-rising step last ws a

        go : (t u : Bool) → nat_lt k r ≡ t → nat_lt (k + 1) r ≡ u → k + 1 ≡ r
        go true true e f =
            let l : k + 1 < r = ltb-true (k + 1) r f in
            absurd (omega (arith, q.below up (k + 1) l, a.apart k (k + 1) (omega arith) (omega (arith, q.inside))))
        go true false e f = omega (arith, ltb-true k r e, ltb-false (k + 1) r f)
        go false u e f = absurd (omega (arith, q.above up k (ltb-false k r e) h))

    nowhere : ((k : ℕ) → k < length ws / step → slice_index ws (k * step) ≤ c → c ≤ slice_index ws (k * step + last) → ⊥) → f ws ≡ none
    nowhere n = past (length ws / step) (omega arith) n ∙ w.end ws (length ws / step * step) (entries_end (length ws) step s)

    pub halving_finds : f ws ≡ at_rank ws step last c none found r
    halving_finds = go (nat_le 1 r) (nat_le c (slice_index ws ((r - 1) * step + last))) refl refl
      where
        go : (t u : Bool) → nat_le 1 r ≡ t → nat_le c (slice_index ws ((r - 1) * step + last)) ≡ u → f ws ≡ cond (t && u) (found ws ((r - 1) * step)) none
        go true true e g =
            let l : 1 ≤ r = leb-true 1 r e in
            let first : slice_index_or ws ((r - 1) * step) 0 ≤ c = q.below (apart-rising step last ws a) (r - 1) (omega arith) in
            past (r - 1) (omega (arith, q.inside)) (λ j h x y. omega (arith, only j (omega (arith, q.inside)) x y))
            ∙ w.hit ws ((r - 1) * step) (entry_fits (length ws) step (r - 1) (omega (arith, q.inside))) first (leb-true _ _ g)
        go true false e g = nowhere (λ k h x y. beyond k (only k h x y) y)
          where
            beyond : (k : ℕ) → k + 1 ≡ r → c ≤ slice_index ws (k * step + last) → ⊥
            beyond k m y =
                let same : r - 1 ≡ k = omega arith in
                omega (arith, leb-false c (slice_index ws (k * step + last)) (rw same at g))
        go false u e g = nowhere (λ k h x y. omega (arith, leb-false 1 r e, only k h x y))

-- the entries of the three kinds of section that have entries of one length
pub pairs_covers : (c : ℕ) → FirstCovers 2 1 c (in_pairs c) false (λ ws i. true)
unfolding in_pairs
pairs_covers c =
    record {
      hit = λ ws i h x y. rw (drop-two ws i (omega arith), le-leb (slice_index ws i) c x, le-leb c (slice_index ws (i + 1)) y);
      miss = λ ws i h n. rw (drop-two ws i (omega arith), covers_not c (slice_index ws i) (slice_index ws (i + 1)) n);
      end = λ ws i h. short (drop i ws) (simp length-drop (omega arith));
    }
  where
    short : (vs : List ℕ) → length vs < 2 → in_pairs c vs ≡ false
    short [] k = refl
    short (a ∷ []) k = refl
    short (a ∷ b ∷ vs) k = absurd (omega arith)

pub triples_covers : (c : ℕ) → FirstCovers 3 1 c (class_among c) 0 (λ ws i. slice_index ws (i + 2))
unfolding class_among
triples_covers c =
    record {
      hit = λ ws i h x y. rw (drop-three ws i (omega arith), le-leb (slice_index ws i) c x, le-leb c (slice_index ws (i + 1)) y);
      miss = λ ws i h n. rw (drop-three ws i (omega arith), covers_not c (slice_index ws i) (slice_index ws (i + 1)) n);
      end = λ ws i h. short (drop i ws) (simp length-drop (omega arith));
    }
  where
    short : (vs : List ℕ) → length vs < 3 → class_among c vs ≡ 0
    short [] k = refl
    short (a ∷ []) k = refl
    short (a ∷ b ∷ []) k = refl
    short (a ∷ b ∷ d ∷ vs) k = absurd (omega arith)

pub items_covers : (c : ℕ) → FirstCovers 1 0 c (mem c) false (λ ws i. true)
items_covers c =
    record {
      hit = λ ws i h x y. rw (drop-next ws i (omega arith), eq-eqb c (slice_index ws i) (same ws i x y));
      miss = λ ws i h n. rw (drop-next ws i (omega arith), ne_eqb c (slice_index ws i) (other ws i n));
      end = λ ws i h. let past : length ws ≤ i = omega arith in rw (drop_of_length-le ws past);
    }
  where
    same : (ws : List ℕ) (i : ℕ) → slice_index ws i ≤ c → c ≤ slice_index ws (i + 0) → c ≡ slice_index ws i
    same ws i x y =
        let here : i + 0 ≡ i = omega arith in
        let z : c ≤ slice_index_or ws i 0 = rw here at y in
        omega arith

    other : (ws : List ℕ) (i : ℕ) → (slice_index ws i ≤ c → c ≤ slice_index ws (i + 0) → ⊥) → c ≢ slice_index ws i
    other ws i n e =
        let here : i + 0 ≡ i = omega arith in
        n (omega arith) (rw here (omega arith))

itself : (t : Bool) → cond t true false ≡ t
itself true = refl
itself false = refl

-- so one entry is asked
module _ (ws : List ℕ) (c r : ℕ) where
  pub pairs-found : Apart 2 1 ws → Ranked ws 2 c r → in_pairs c ws ≡ reaches ws 2 1 c r
  pairs-found a q = halving_finds 2 1 c (in_pairs c) false (λ ws i. true) (pairs_covers c) ws r (omega arith) a q ∙ itself (reaches ws 2 1 c r)

  pub class-found : Apart 3 1 ws → Ranked ws 3 c r → class_among c ws ≡ cond (reaches ws 3 1 c r) (slice_index ws ((r - 1) * 3 + 2)) 0
  class-found a q = halving_finds 3 1 c (class_among c) 0 (λ ws i. slice_index ws (i + 2)) (triples_covers c) ws r (omega arith) a q

  pub item_found : Apart 1 0 ws → Ranked ws 1 c r → mem c ws ≡ reaches ws 1 0 c r
  item_found a q = halving_finds 1 0 c (mem c) false (λ ws i. true) (items_covers c) ws r (omega arith) a q ∙ itself (reaches ws 1 0 c r)
