-- Laws of putting places into a set.
use Prim.Native.Nat.{ℕ, zero, suc, ◌+◌, ◌-◌, ◌*◌, ◌/◌, ◌%◌, ◌^◌, ◌<◌, ◌≤◌}
use native.Mathlib.Nat.{one-mul}
use native.Mathlib.Omega.{arith}
use mathlib.Core.Path.{◌≡◌, refl, sym, ◌∙◌, ap, subst}
use mathlib.Core.Bool.{Bool, true, false, ◌&&◌, ◌||◌}
use mathlib.Core.List.{List, [], ◌∷◌}
use lib.ListN.{length, get_or, set, replicate, length-set}
use Rattle.std.specs.Prelude.{◌++◌}
use Rattle.std.proofs.lemmas.List.{get_or-replicate, length-replicate}
use Rattle.std.proofs.lemmas.Slice.{put_mid-paste}
use borrow.Rule.Slice.PartMut.{put_mid}
use lib.Seq.{get_or-set_same, get_or-set_other, paste, paste-zero, paste-suc}
use lib.Bits.{bit_or}
use lib.Pow.{shl_exact}
use lib.Dec.{leb, ltb, eqb, lit≤}
use borrow.Author.Tests.{eq-eqb, ne_eqb, eqb-true, eqb-false, le-leb, lt-leb, lt-ltb, le-ltb, leb-true, leb-false, ltb-true}
use Rattle.lists.specs.Laws.{both_left, both_right}
use Rattle.lists.specs.Tests.{agree, not_so}
use Rattle.table.specs.Part.{in_pairs}
use Rattle.bit_sets.specs.Sets.{bit, has, SetOf, Put, window_words, LowEnd, HighEnd}
use Rattle.bit_sets.proofs.BitLaws.{bit_shifted, bit_set, bit-none, bit_full}

-- what `has` answers
pub has_shifted : (s : List ℕ) (d : ℕ) → eqb (get_or s (d / 32) 0 / 2 ^ (d % 32) % 2) 1 ≡ has s d
unfolding has
has_shifted s d = bit_shifted (d % 32) (get_or s (d / 32) 0)

-- the set after the place c was put into it
pub put_one : (s : List ℕ) (c : ℕ) → c < length s * 32 → Put s (set s (c / 32) (bit_or (get_or s (c / 32) 0) (1 * 2 ^ (c % 32) % 2 ^ 32)))
    (λ e. eqb e c)
unfolding has
put_one s c h =
    let p : 1 * 2 ^ (c % 32) % 2 ^ 32 ≡ 2 ^ (c % 32) = shl_exact 1 (c % 32) 32 (lit≤ tt) (omega arith) ∙ one-mul (2 ^ (c % 32)) in
    record {
      room = length-set s (c / 32) _;
      each = λ d i. rw p (go d (eqb (d / 32) (c / 32)) refl);
    }
  where
    places : (d : ℕ) → d / 32 ≡ c / 32 → eqb (d % 32) (c % 32) ≡ eqb d c
    places d e =
        agree _ _ (λ f. let q : d % 32 ≡ c % 32 = eqb-true _ _ f in eq-eqb d c (omega arith))
        (λ f. let q : d ≡ c = eqb-true _ _ f in eq-eqb (d % 32) (c % 32) (omega arith))

    go : (d : ℕ) (b : Bool) → eqb (d / 32) (c / 32) ≡ b
        → bit (d % 32) (get_or (set s (c / 32) (bit_or (get_or s (c / 32) 0) (2 ^ (c % 32)))) (d / 32) 0) ≡ eqb d c || bit (d % 32)
        (get_or s (d / 32) 0)
    go d true e =
        let f : d / 32 ≡ c / 32 = eqb-true _ _ e in
        rw (
          f,
          get_or-set_same s (c / 32) (bit_or (get_or s (c / 32) 0) (2 ^ (c % 32))) 0 (omega arith),
          bit_set (d % 32) (c % 32)
              (get_or s (c / 32) 0),
          places d f,
        )
    go d false e =
        let f : d / 32 ≡ c / 32 → ⊥ = eqb-false _ _ e in
        let n : eqb d c ≡ false = ne_eqb d c (λ q. f (ap (λ (x : ℕ). x / 32) q)) in
        rw (get_or-set_other s (c / 32) (d / 32) (bit_or (get_or s (c / 32) 0) (2 ^ (c % 32))) 0 f, n)

-- the set after a word of it was filled
pub put_word : (s : List ℕ) (i : ℕ) → i < length s → Put s (set s i 0xFFFFFFFF) (λ d. leb (i * 32) d && ltb d ((i + 1) * 32))
unfolding has
put_word s i h = record { room = length-set s i _; each = λ d k. go d (eqb (d / 32) i) refl }
  where
    go : (d : ℕ) (b : Bool) → eqb (d / 32) i ≡ b
        → bit (d % 32) (get_or (set s i 0xFFFFFFFF) (d / 32) 0) ≡ leb (i * 32) d && ltb d ((i + 1) * 32) || bit (d % 32) (get_or s (d / 32) 0)
    go d true e =
        let f : d / 32 ≡ i = eqb-true _ _ e in
        rw (
          f,
          get_or-set_same s i 0xFFFFFFFF 0 h,
          bit_full (d % 32) (omega arith),
          le-leb (i * 32) d (omega arith),
          lt-ltb d ((i + 1) * 32)
              (omega arith),
        )
    go d false e =
        let f : d / 32 ≡ i → ⊥ = eqb-false _ _ e in
        let n : leb (i * 32) d && ltb d ((i + 1) * 32) ≡ false
        = not_so (leb (i * 32) d && ltb d ((i + 1) * 32))
        (λ q. f (within d (leb-true _ _ (both_left (leb (i * 32) d) (ltb d ((i + 1) * 32)) q))
        (ltb-true _ _ (both_right (leb (i * 32) d) (ltb d ((i + 1) * 32)) q)))) in
        rw (get_or-set_other s i (d / 32) 0xFFFFFFFF 0 f, n)
      where
        within : (d : ℕ) → i * 32 ≤ d → d < (i + 1) * 32 → d / 32 ≡ i
        within d a b = omega arith

-- nothing was put, and tests that agree
module _ (old new : List ℕ) (p q : ℕ → Bool) where
  pub put_same : ((d : ℕ) → d < length old * 32 → p d ≡ q d) → Put old new p → Put old new q
  put_same e w = record { room = w.room; each = λ d h. w.each d h ∙ rw (e d h) }

pub put_none : (old : List ℕ) (p : ℕ → Bool) → ((d : ℕ) → d < length old * 32 → p d ≡ false) → Put old old p
put_none old p e = record { room = refl; each = λ d h. rw (e d h) }

-- an empty set holds what was put into it
pub empty_has : (n d : ℕ) → has (replicate n 0) d ≡ false
unfolding has
empty_has n d = rw (zeros n (d / 32)) (bit-none (d % 32))
  where
    zeros : (n i : ℕ) → ◌≡◌ {A = ℕ} (get_or (replicate n 0) i 0) 0
    zeros zero i = refl
    zeros (suc n) zero = refl
    zeros (suc n) (suc i) = zeros n i

or_false : (b : Bool) → b || false ≡ b
or_false true = refl
or_false false = refl

pub put_empty : (n : ℕ) (blank new : List ℕ) (p : ℕ → Bool) → blank ≡ replicate n 0 → Put blank new p → SetOf new p
put_empty n blank new p e w =
    record {
      each = λ d h. w.each d (rw (← w.room) h) ∙ rw (e, empty_has n d) (or_false (p d));
    }

-- What a walk puts into a set: some of it is left.
pub record Putting (all left : ℕ → Bool) (old cur : List ℕ) : Type 0 where
  pub room : length cur ≡ length old
  pub same : (d : ℕ) → d < length old * 32 → all d || has old d ≡ left d || has cur d

module _ (all : ℕ → Bool) (old : List ℕ) where
  pub putting_start : Putting all all old old
  putting_start = record { room = refl; same = λ d h. refl }

  module _ (left : ℕ → Bool) (cur : List ℕ) (w : Putting all left old cur) where
    pub putting_on : (a b : ℕ → Bool) (new : List ℕ) → ((d : ℕ) → d < length old * 32 → left d ≡ a d || b d) → Put cur new a
        → Putting all b old new
    putting_on a b new e p =
        record {
          room = p.room ∙ w.room;
          same = λ d h. w.same d h ∙ rw (e d h, p.each d (rw w.room h)) (go (a d) (b d) (has cur d));
        }
      where
        go : (p q r : Bool) → (p || q) || r ≡ q || (p || r)
        go true true r = refl
        go true false r = refl
        go false q r = refl

    pub putting_done : ((d : ℕ) → d < length old * 32 → left d ≡ false) → Put old cur all
    putting_done e =
        record {
          room = w.room;
          each = λ d h. let k : left d || has cur d ≡ has cur d = rw (e d h) in sym k ∙ sym (w.same d h);
        }

-- a run of places in two
pub run-split : (a m b d : ℕ) → a ≤ m → m ≤ b → leb a d && ltb d b ≡ leb a d && ltb d m || leb m d && ltb d b
run-split a m b d h k = go (leb m d) refl
  where
    ends : (x : Bool) → x && true ≡ x && true || false
    ends true = refl
    ends false = refl

    go : (t : Bool) → leb m d ≡ t → leb a d && ltb d b ≡ leb a d && ltb d m || t && ltb d b
    go true e =
        let l : m ≤ d = leb-true m d e in
        rw (le-leb a d (omega arith), le-ltb d m l)
    go false e =
        let l : d < m = leb-false m d e in
        rw (lt-ltb d m l, lt-ltb d b (omega arith)) (ends (leb a d))

-- its first place
pub run-first : (i d : ℕ) → leb i d && ltb d (i + 1) ≡ eqb d i
run-first i d = go (eqb d i) refl
  where
    go : (t : Bool) → eqb d i ≡ t → leb i d && ltb d (i + 1) ≡ t
    go true e =
        let f : d ≡ i = eqb-true d i e in
        rw (le-leb i d (omega arith), lt-ltb d (i + 1) (omega arith))
    go false e = not_so _ (λ q. eqb-false d i e (one (leb-true i d (both_left (leb i d) (ltb d (i + 1)) q))
        (ltb-true d (i + 1) (both_right (leb i d) (ltb d (i + 1)) q))))
      where
        one : i ≤ d → d < i + 1 → d ≡ i
        one a b = omega arith

pub run-next : (i to d : ℕ) → i < to → leb i d && ltb d to ≡ eqb d i || leb (i + 1) d && ltb d to
run-next i to d h = run-split i (i + 1) to d (omega arith) (omega arith) ∙ ap (λ (b : Bool). b || leb (i + 1) d && ltb d to) (run-first i d)

pub run_none : (i to d : ℕ) → to ≤ i → leb i d && ltb d to ≡ false
run_none i to d h = not_so _ (λ q. omega (
  arith,
  leb-true i d (both_left (leb i d) (ltb d to) q),
  ltb-true d to
      (both_right (leb i d) (ltb d to) q),
))

-- three runs, one behind the other
pub run-three : (x : List ℕ) (y z w : List ℕ) (a m n b : ℕ) → a ≤ m → m ≤ n → n ≤ b → Put x y (λ d. leb a d && ltb d m)
    → Put y z (λ d. leb m d && ltb d n)
    → Put z w (λ d. leb n d && ltb d b) → Put x w (λ d. leb a d && ltb d b)
run-three x y z w a m n b h i j p q r =
    let one = putting_on (λ d. leb a d && ltb d b) x (λ d. leb a d && ltb d b) x (putting_start _ x) (λ d. leb a d && ltb d m)
    (λ d. leb m d && ltb d b) y (λ d k. run-split a m b d h (omega arith)) p in
    let two = putting_on (λ d. leb a d && ltb d b) x (λ d. leb m d && ltb d b) y one (λ d. leb m d && ltb d n) (λ d. leb n d && ltb d b) z
    (λ d k. run-split m n b d i j) q in
    let three = putting_on (λ d. leb a d && ltb d b) x (λ d. leb n d && ltb d b) z two (λ d. leb n d && ltb d b) (λ d. false) w
    (λ d k. sym (or_false _)) r in
    putting_done (λ d. leb a d && ltb d b) x (λ d. false) w three (λ d k. refl)

-- the set after its words from a up to b were filled
pub put_filled : (s ys : List ℕ) (a b : ℕ) → a ≤ b → b ≤ length s → ys ≡ replicate (b - a) 0xFFFFFFFF
    → Put s (put_mid a (b - a) s ys) (λ d. leb (a * 32) d && ltb d (b * 32))
put_filled s ys a b h k e =
    let all : a + (b - a) ≡ b = omega (arith, h) in
    rw (← put_mid-paste a (b - a) s ys full (b - a) e refl (sym len), all) at (go (b - a) (omega arith))
  where
    full : List ℕ
    full = replicate (b - a) 0xFFFFFFFF

    len : length full ≡ b - a
    len = length-replicate {A = ℕ} (b - a) 0xFFFFFFFF

    go : (j : ℕ) → j ≤ b - a → Put s (paste s a full j) (λ d. leb (a * 32) d && ltb d ((a + j) * 32))
    go zero i =
        subst (λ (x : List ℕ). Put s x (λ d. leb (a * 32) d && ltb d ((a + 0) * 32))) (paste-zero s a full)
        (put_none s _ (λ d k. run_none (a * 32) ((a + 0) * 32) d (omega arith)))
    go (suc j) i =
        let before = go j (omega (arith, i)) in
        let room : length (paste s a full j) ≡ length s = before.room in
        let more : set (paste s a full j) (a + j) (get_or full j 0) ≡ paste s a full (suc j)
        = paste-suc s a full j 0 (omega (arith, k, i)) (rw len (omega (arith, i))) in
        let word = rw (get_or-replicate {A = ℕ} (b - a) j 0xFFFFFFFF 0 (omega (arith, i))) at more in
        let next : a + j + 1 ≡ a + suc j = omega arith in
        let after = rw (word, next) at (put_word (paste s a full j) (a + j) (omega (arith, room, k, i))) in
        run-three s s (paste s a full j) (paste s a full (suc j)) (a * 32) (a * 32) ((a + j) * 32) ((a + suc j) * 32) (omega arith) (omega arith)
        (omega arith) (put_none s _ (λ d k. run_none (a * 32) (a * 32) d (omega arith))) before after

-- a codepoint and its place in a window
pub point_place : (base c d : ℕ) → base ≤ c → eqb d (c - base) ≡ eqb (base + d) c
point_place base c d h =
    agree _ _ (λ e. eq-eqb (base + d) c (there (eqb-true d (c - base) e))) (λ e. eq-eqb d (c - base) (back (eqb-true (base + d) c e)))
  where
    there : d ≡ c - base → base + d ≡ c
    there e = omega arith

    back : base + d ≡ c → d ≡ c - base
    back e = omega arith

pub point_before : (base c d : ℕ) → c < base → eqb (base + d) c ≡ false
point_before base c d h = ne_eqb (base + d) c (λ e. omega arith)

pub point_behind : (base c d n : ℕ) → base ≤ c → 0x10000 ≤ c - base → n ≡ window_words → d < n * 32 → eqb (base + d) c ≡ false
point_behind base c d n h i r k = ne_eqb (base + d) c (λ e. omega arith)

-- the ends of a range in a window
module _ (base : ℕ) where
  pub low_before : (first : ℕ) → first ≤ base → LowEnd base first 0
  low_before first h = record { inside = omega arith; same = λ d k. rw (le-leb first (base + d) (omega arith), le-leb 0 d (omega arith)) }

  pub low_inside : (first : ℕ) → base < first → first - base < 0x10000 → LowEnd base first (first - base)
  low_inside first h i = record { inside = omega arith; same = λ d k. agree _ _ (there d) (back d) }
    where
      there : (d : ℕ) → leb first (base + d) ≡ true → leb (first - base) d ≡ true
      there d e = le-leb (first - base) d (omega (arith, leb-true first (base + d) e))

      back : (d : ℕ) → leb (first - base) d ≡ true → leb first (base + d) ≡ true
      back d e = le-leb first (base + d) (omega (arith, leb-true (first - base) d e))

  pub low_behind : (first : ℕ) → base < first → 0x10000 ≤ first - base → LowEnd base first 0x10000
  low_behind first h i = record {
    inside = omega arith;
    same = λ d k. rw (
      lt-leb first (base + d) (omega arith),
      lt-leb 0x10000 d
          (omega arith),
    );
  }

  pub high_before : (last : ℕ) → last < base → HighEnd base last 0
  high_before last h = record { inside = omega arith; same = λ d k. rw (lt-leb (base + d) last (omega arith), le-ltb d 0 (omega arith)) }

  pub high_inside : (last : ℕ) → base ≤ last → last - base < 0x10000 → HighEnd base last (last - base + 1)
  high_inside last h i = record { inside = omega arith; same = λ d k. agree _ _ (there d) (back d) }
    where
      there : (d : ℕ) → leb (base + d) last ≡ true → ltb d (last - base + 1) ≡ true
      there d e = lt-ltb d (last - base + 1) (omega (arith, leb-true (base + d) last e))

      back : (d : ℕ) → ltb d (last - base + 1) ≡ true → leb (base + d) last ≡ true
      back d e = le-leb (base + d) last (omega (arith, ltb-true d (last - base + 1) e))

  pub high_behind : (last : ℕ) → base ≤ last → 0x10000 ≤ last - base → HighEnd base last 0x10000
  high_behind last h i = record {
    inside = omega arith;
    same = λ d k. rw (
      le-leb (base + d) last (omega arith),
      lt-ltb d 0x10000
          (omega arith),
    );
  }

  module _ (first last from to : ℕ) (lo : LowEnd base first from) (hi : HighEnd base last to) (old : List ℕ)
      (room : length old ≡ window_words) where
    range_place : (d : ℕ) → d < length old * 32 → leb first (base + d) && leb (base + d) last ≡ leb from d && ltb d to
    range_place d h = let k : d < 0x10000 = omega arith in rw (lo.same d k, hi.same d k)

    pub range_put : (new : List ℕ) → Put old new (λ d. leb from d && ltb d to)
        → Put old new (λ d. leb first (base + d) && leb (base + d) last)
    range_put new p = put_same old new _ _ (λ d h. sym (range_place d h)) p

    pub range_none : to ≤ from → Put old old (λ d. leb first (base + d) && leb (base + d) last)
    range_none h = put_none old _ (λ d k. range_place d k ∙ run_none from to d h)

-- the first pair of a part, and a part with none
module _ (c : ℕ) where
  pub pairs_next : (whole pair rest : List ℕ) → whole ≡ pair ++ rest → length pair ≡ 2
      → in_pairs c whole ≡ leb (get_or pair 0 0) c && leb c (get_or pair 1 0) || in_pairs c rest
  unfolding in_pairs
  pairs_next whole [] rest e h = absurd (omega (arith, h))
  pairs_next whole (a ∷ []) rest e h = absurd (omega (arith, h))
  pairs_next whole (a ∷ b ∷ []) rest e h = rw e
  pairs_next whole (a ∷ b ∷ x ∷ xs) rest e h = absurd (omega (arith, h))

  pub pairs-none : (part : List ℕ) → length part < 2 → in_pairs c part ≡ false
  unfolding in_pairs
  pairs-none [] k = refl
  pairs-none (a ∷ []) k = refl
  pairs-none (a ∷ b ∷ vs) k = absurd (omega (arith, k))
