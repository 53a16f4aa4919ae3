-- Laws of the claims of a batch: how they are set, and what is reached from them.
use Prim.Native.Nat.{ℕ, ◌+◌, ◌<◌, ◌≤◌}
use native.Mathlib.Omega.{arith}
use mathlib.Core.Path.{◌≡◌, refl, sym, ◌∙◌, ap}
use mathlib.Core.Bool.{Bool, true, false, ◌&&◌, ◌||◌, cond}
use mathlib.Core.List.{List, [], ◌∷◌}
use mathlib.Core.Logic.{◌⊎◌, inl, inr, ⊎_elim}
use lib.ListN.{length, get_or, length-set}
use lib.Seq.{get_or-set_same, get_or-set_other}
use lib.Dec.{eqb, leb, ltb}
use borrow.Author.Tests.{eqb-true, leb-true, ltb-true, ltb-false, lt-ltb, le-leb, eq-eqb}
use Rattle.lists.specs.Laws.{both_left, both_right, either}
use Rattle.table.specs.Layout.{most_groups}
use Rattle.sorting.specs.Order.{in_order, CountBelow, if_below}
use Rattle.sorting.proofs.OrderLaws.{order-at}
use Rattle.group_numbers.specs.Batch.{batch, Founded, Claims, Held, Shared, Reached, Claimed, ClaimSet, Takes}
use Rattle.group_numbers.proofs.NumberLaws.{same_or_not, kept_same, founded_same, kept_on, founded_on, founded_by}
use Rattle.std.specs.Prelude.{Some, None}
use Rattle.std.specs.Option.{unwrap_or}
use Rattle.std.specs.List.{slice_get}
use Rattle.std.specs.declared.option.Option as rust
use Rattle.group_claims.specs.Gaps.{Between, Next}

-- nothing is taken
pub takes_none : (xs : List ℕ) (m : Claimed) → Claims m.ends m.owners m.numbers → (taken : ℕ → ℕ → Bool)
    → ((i q : ℕ) → q < length xs → taken i (get_or xs q 0) ≡ true → ⊥) → Takes taken xs m m
takes_none xs m w taken f =
    record {
      claims = w;
      links = λ holding h g. (founded_same (Shared holding xs) m.numbers, h);
      kept = kept_same m.numbers;
      stays = λ i q h r. r;
      reaches = λ i q h e. absurd (f i q h e);
    }

-- one after the other is taken
pub takes_on : (xs : List ℕ) (m n o : Claimed) (a b c : ℕ → ℕ → Bool) → Takes a xs m n → Takes b xs n o
    → ((i x : ℕ) → c i x ≡ (a i x || b i x)) → Takes c xs m o
takes_on xs m n o a b c s t e =
    record {
      claims = t.claims;
      links = λ holding h g.
          let p = s.links holding h (λ i q k f. g i q k (e i (get_or xs q 0) ∙ rw f)) in
          let r = t.links holding p.1 (λ i q k f. g i q k (e i (get_or xs q 0) ∙ later (a i (get_or xs q 0)) (b i (get_or xs q 0)) f)) in
          (founded_on (Shared holding xs) m.numbers n.numbers o.numbers p.0 r.0, r.1);
      kept = kept_on m.numbers n.numbers o.numbers s.kept t.kept;
      stays = λ i q h r. t.stays i q h (s.stays i q h r);
      reaches = λ i q h f. ⊎_elim (λ g. t.stays i q h (s.reaches i q h g)) (λ g. t.reaches i q h g)
          (either (a i (get_or xs q 0)) (b i (get_or xs q 0)) (sym (e i (get_or xs q 0)) ∙ f));
    }
  where
    later : (x y : Bool) → y ≡ true → (x || y) ≡ true
    later true y f = refl
    later false y f = f

-- no number lies between a and the first that is not below it
pub between : (xs : List ℕ) (a at high : ℕ) → in_order xs ≡ true → CountBelow xs a at → (at < length xs → high ≡ get_or xs at 0) → Between xs a high
between xs a at high o z f = record { none = λ q h up down. go q h up down (ltb q at) refl }
  where
    go : (q : ℕ) → q < length xs → a < get_or xs q 0 → get_or xs q 0 < high → (t : Bool) → ltb q at ≡ t → ⊥
    go q h up down true e = omega (arith, z.below q (ltb-true q at e))
    go q h up down false e =
        let i : at ≤ q = ltb-false q at e in
        omega (arith, f (omega arith), order-at xs o at q i h)

-- the lower end is above the one and the upper end below the other, as two masks say
pub gap_told : (low a b high u v : ℕ) → u ≡ if_below 1 low a → v ≡ if_below u b high → (v ≡ 0 → ⊥) → (low < a) × (b < high)
unfolding if_below
gap_told low a b high u v e f n = go (ltb low a) (ltb b high) refl refl e f
  where
    go : (p q : Bool) → ltb low a ≡ p → ltb b high ≡ q → u ≡ cond p 1 0 → v ≡ cond q u 0 → (low < a) × (b < high)
    go true true g h i j = (ltb-true low a g, ltb-true b high h)
    go true false g h i j = absurd (n j)
    go false true g h i j = absurd (n (j ∙ i))
    go false false g h i j = absurd (n j)

-- nor between 0 and the first number
pub first-between : (xs : List ℕ) → in_order xs ≡ true → Between xs 0 (unwrap_or (slice_get xs 0) 0)
first-between [] o = record { none = λ q h a b. absurd (omega (arith, h)) }
first-between (x ∷ xs) o = record { none = λ q h a b. omega (arith, a, b, order-at (x ∷ xs) o 0 q (omega arith) h) }

-- nor below one that no codepoint has, where none is at a or above it
pub next-between : (xs : List ℕ) (a top : ℕ) (r : rust.Option ℕ) → Next xs a r → Between xs a (unwrap_or r top)
next-between xs a top (Some high) w = w
next-between xs a top None w = record { none = λ q h a b. w q h a }

-- a pair between them claims nothing
pub take-between : (xs : List ℕ) (m : Claimed) (n a b low high : ℕ) → Claims m.ends m.owners m.numbers → Between xs low high → (low < a) × (b < high)
    → Takes (λ i x. eqb i n && (leb a x && leb x b)) xs m m
take-between xs m n a b low high w g h =
    let up : low < a = h.0 in
    let down : b < high = h.1 in
    takes_none xs m w (λ i x. eqb i n && (leb a x && leb x b)) (λ i q l e.
    let x : ℕ = get_or xs q 0 in
    let f = both_right (eqb i n) (leb a x && leb x b) e in
    g.none q l (omega (arith, leb-true a x (both_left (leb a x) (leb x b) f))) (omega (arith, leb-true x b (both_right (leb a x) (leb x b) f))))

-- A pair of group n, whose lower end has the place `at`.
module _ (xs : List ℕ) (m : Claimed) (n a b at : ℕ) (o : in_order xs ≡ true) (w : Claims m.ends m.owners m.numbers) (z : CountBelow xs a at) where
  abbrev taken : ℕ → ℕ → Bool
  taken i x = eqb i n && (leb a x && leb x b)

  -- what is taken lies from a to b
  record Within (i x : ℕ) : Type 0 where
    group : i ≡ n
    low : a ≤ x
    high : x ≤ b

  within : (i x : ℕ) → taken i x ≡ true → Within i x
  within i x e =
      let f = both_right (eqb i n) (leb a x && leb x b) e in
      record {
        group = eqb-true i n (both_left (eqb i n) (leb a x && leb x b) e);
        low = leb-true a x (both_left (leb a x) (leb x b) f);
        high = leb-true x b (both_right (leb a x) (leb x b) f);
      }

  taken_in : (x : ℕ) → a ≤ x → x ≤ b → taken n x ≡ true
  taken_in x h l = rw (eq-eqb n n refl, le-leb a x h, le-leb x b l)

  -- what is not below a stands from `at` on
  behind : (q : ℕ) → a ≤ get_or xs q 0 → at ≤ q
  behind q h = go (ltb q at) refl
    where
      go : (t : Bool) → ltb q at ≡ t → at ≤ q
      go true e = absurd (omega (arith, z.below q (ltb-true q at e)))
      go false e = ltb-false q at e

  pub take_past : length xs ≤ at → Takes taken xs m m
  take_past h = takes_none xs m w taken (λ i q l e. let y = within i (get_or xs q 0) e in omega (arith, behind q y.low))

  pub take_over : at < length xs → b < get_or xs at 0 → Takes taken xs m m
  take_over h k = takes_none xs m w taken (λ i q l e. let y = within i (get_or xs q 0) e in omega (arith, y.high, order-at xs o at q (behind q y.low) l))

  module _ (h : at < length xs) (k : get_or xs at 0 ≤ b) (few : n < most_groups) (room : at < batch) (m' : Claimed) (s : ClaimSet at n (b + 1) m m') where
    here : taken n (get_or xs at 0) ≡ true
    here = taken_in (get_or xs at 0) (z.above at (omega arith) h) k

    -- the claim of a place: it is the one that was set, or as before
    record SetHere (p : ℕ) : Type 0 where
      place : p ≡ at
      raised : get_or m.ends p 0 < b + 1
      end : get_or m'.ends p 0 ≡ b + 1
      owner : get_or m'.owners p 0 ≡ n

    record Left (p : ℕ) : Type 0 where
      end : get_or m'.ends p 0 ≡ get_or m.ends p 0
      owner : get_or m'.owners p 0 ≡ get_or m.owners p 0

    point : (p : ℕ) → SetHere p ⊎ Left p
    point p = ⊎_elim
        (λ u. ⊎_elim
        (λ v. inl (record {
          place = v;
          raised = rw v u.0;
          end = rw (u.1, v) (get_or-set_same m.ends at (b + 1) 0 (omega (arith, w.ends_size)));
          owner = rw (u.2, v) (get_or-set_same m.owners at n 0 (omega (arith, w.owners_size)));
        }))
        (λ v. inr (record {
          end = rw u.1 (get_or-set_other m.ends at p (b + 1) 0 v);
          owner = rw u.2 (get_or-set_other m.owners at p n 0 v);
        }))
        (same_or_not p at))
        (λ u. inr (record { end = rw u.1; owner = rw u.2 }))
        s.set_or_not

    -- the claim at the place itself
    top : b < get_or m'.ends at 0
    top = ⊎_elim (λ u. rw (u.1, get_or-set_same m.ends at (b + 1) 0 (omega (arith, w.ends_size))) (omega arith)) (λ u. rw u.1 (omega (arith, u.0))) s.set_or_not

    owner_same : get_or m'.numbers (get_or m'.owners at 0) 0 ≡ get_or m'.numbers n 0
    owner_same = ⊎_elim
        (λ u. ap (λ (x : ℕ). get_or m'.numbers x 0) u.owner)
        (λ u. ap (λ (x : ℕ). get_or m'.numbers x 0) u.owner ∙ s.met.same (lt-ltb 0 (get_or m.ends at 0) (omega (arith, top, u.end))))
        (point at)

    claims : Claims m'.ends m'.owners m'.numbers
    claims =
        record {
          ends_size = ⊎_elim (λ u. rw u.1 (length-set m.ends at (b + 1) ∙ w.ends_size)) (λ u. rw u.1 w.ends_size) s.set_or_not;
          owners_size = ⊎_elim (λ u. rw u.2 (length-set m.owners at n ∙ w.owners_size)) (λ u. rw u.2 w.owners_size) s.set_or_not;
          numbers = s.met.joins.numbers;
          few = λ p. ⊎_elim (λ u. rw u.owner few) (λ u. rw u.owner (w.few p)) (point p);
          owned = λ p g. ⊎_elim (λ u. rw u.owner s.met.here)
              (λ u. rw u.owner (s.met.joins.kept.held (get_or m.owners p 0) (w.owned p (rw u.end at g)))) (point p);
        }

    -- a group that was reached is reached
    stays : (i q : ℕ) → q < length xs → Reached xs m.ends m.owners m.numbers i q → Reached xs m'.ends m'.owners m'.numbers i q
    stays i q l r =
        let still : get_or m'.numbers (get_or m.owners r.from 0) 0 ≡ get_or m'.numbers i 0 =
        s.met.joins.kept.together (get_or m.owners r.from 0) i (rw r.same r.numbered) r.same in
        ⊎_elim
        (λ u. record {
          from = r.from;
          before = r.before;
          covers = rw u.end (omega (arith, r.covers, u.raised));
          same =
              let was : get_or m'.numbers (get_or m.owners at 0) 0 ≡ get_or m'.numbers n 0 =
              s.met.same (lt-ltb 0 (get_or m.ends at 0) (rw (← u.place) (omega (arith, r.covers)))) in
              rw u.owner (sym was ∙ rw (← u.place) still);
          numbered = s.met.joins.kept.held i r.numbered;
        })
        (λ u. record {
          from = r.from;
          before = r.before;
          covers = rw u.end r.covers;
          same = rw u.owner still;
          numbered = s.met.joins.kept.held i r.numbered;
        })
        (point r.from)

    reaches : (i q : ℕ) → q < length xs → taken i (get_or xs q 0) ≡ true → Reached xs m'.ends m'.owners m'.numbers i q
    reaches i q l e =
        let y = within i (get_or xs q 0) e in
        record {
          from = at;
          before = behind q y.low;
          covers = omega (arith, top, y.high);
          same = rw y.group owner_same;
          numbered = rw y.group s.met.here;
        }

    module _ (holding : ℕ → ℕ → Bool) (held : Held holding xs m.ends m.owners)
        (tells : (i q : ℕ) → q < length xs → taken i (get_or xs q 0) ≡ true → holding i (get_or xs q 0) ≡ true) where
      founded : Founded (Shared holding xs) m.numbers m'.numbers
      founded = founded_by _ (Shared holding xs) m.numbers m'.numbers shared s.met.joins.founded
        where
          first : (i : ℕ) → (i ≡ n) ⊎ ((i ≡ get_or m.owners at 0) × (ltb 0 (get_or m.ends at 0) ≡ true)) → holding i (get_or xs at 0) ≡ true
          first i (inl e) = rw e (tells n at h here)
          first i (inr e) = rw e.0 (held.later at at (omega arith) h (held.here at (ltb-true 0 (get_or m.ends at 0) e.1)))

          shared : (i j : ℕ) → (j ≡ n) × ((i ≡ n) ⊎ ((i ≡ get_or m.owners at 0) × (ltb 0 (get_or m.ends at 0) ≡ true))) → Shared holding xs i j
          shared i j g = record { place = at; inside = h; first = first i g.1; second = rw g.0 (tells n at h here) }

      now_held : Held holding xs m'.ends m'.owners
      now_held =
          record {
            here = λ p g. ⊎_elim (λ u. rw (u.end, u.place) (omega (arith, k))) (λ u. rw u.end (held.here p (rw u.end at g))) (point p);
            later = λ p q l i g. ⊎_elim
                (λ u.
                let up : at ≤ q = rw u.place at l in
                let top : get_or xs q 0 < b + 1 = rw u.end at g in
                rw u.owner (tells n q i (taken_in (get_or xs q 0) (z.above q up i) (omega arith))))
                (λ u. rw u.owner (held.later p q l i (rw u.end at g)))
                (point p);
          }

    pub take_hit : Takes taken xs m m'
    take_hit =
        record {
          claims = claims;
          links = λ holding held tells. (founded holding held tells, now_held holding held tells);
          kept = s.met.joins.kept;
          stays = stays;
          reaches = reaches;
        }
