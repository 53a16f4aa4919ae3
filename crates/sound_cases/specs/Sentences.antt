-- Rule 6 is asked of heads and of the ends of class entries; it says the same of every codepoint.
use Rattle.std.specs.Prelude.{ℕ, ◌+◌, ◌≤◌, ◌≡◌, refl, Bool, true, false, not, ◌&&◌, ◌||◌, leb, ltb, eqb}
use Rattle.std.proofs.Common.{arith, sym, ⊎_elim, eqb-true, eq-eqb, le-leb, lt-ltb, leb-true, leb-false, ltb-true}
use mathlib.Core.List.{List, Memᴰ}
use Rattle.std.proofs.lemmas.Bool.{eqb-false}
use Rattle.lists.specs.Lists.{all, distinct}
use Rattle.lists.specs.Laws.{both, both_left, both_right, either}
use Rattle.lists.specs.Members.{all-at, all_of}
use Rattle.lists.specs.Elements.{list_same}
use Rattle.lists.specs.Tests.{never, not_so, untrue}
use Rattle.table.specs.Table.{ClassRange, Table}
use Rattle.text.specs.Hangul.{first_syllable, syllable_count, is_leading, is_vowel, is_trailing, is_jamo, is_syllable}
use Rattle.text.specs.Decomposition.{round, four_rounds}
use Rattle.soundness.specs.Pairs.{decomposes_fully, heads, plain_head, meets, spares_hangul, rule6}
use Rattle.text_laws.specs.Rounds.{fully}
use Rattle.rule6_laws.specs.Stable.{rule6_parts, fifth_same}

-- "no class entry gives a jamo or a syllable a class other than 0", of one entry
abbrev pub SparesEach : ClassRange → Type 0
SparesEach r = (c : ℕ) → r.first ≤ c → c ≤ r.last → is_jamo c || is_syllable c ≡ true → r.class ≡ 0

module _ (r : ClassRange) where
  -- an entry that does not meet a block holds none of its codepoints
  outside : {A : Type 0} (a b c : ℕ) → not (meets r a b) ≡ true → r.first ≤ c → c ≤ r.last → a ≤ c → c ≤ b → A
  outside a b c e h k i j =
      never (meets r a b)
      (both (leb r.first b) (leb a r.last) (le-leb r.first b (omega arith)) (le-leb a r.last (omega arith)))
      (untrue (meets r a b) e)

  -- and one that meets it holds one
  inside : {A : Type 0} (a b : ℕ) → r.first ≤ r.last → a ≤ b → meets r a b ≡ true
      → ((c : ℕ) → r.first ≤ c → c ≤ r.last → a ≤ c → c ≤ b → A) → A
  inside {A} a b o p e f = go (leb r.first a) refl
    where
      low : r.first ≤ b
      low = leb-true r.first b (both_left (leb r.first b) (leb a r.last) e)

      high : a ≤ r.last
      high = leb-true a r.last (both_right (leb r.first b) (leb a r.last) e)

      go : (t : Bool) → leb r.first a ≡ t → A
      go true k = f a (leb-true r.first a k) high (omega arith) p
      go false k = let l = leb-false r.first a k in f r.first (omega arith) o (omega (arith, l)) low

  pub spares_each : spares_hangul r ≡ true → SparesEach r
  spares_each e c h k i = go (eqb r.class 0) refl e
    where
      l : Bool
      l = not (meets r 0x1100 0x1112)

      v : Bool
      v = not (meets r 0x1161 0x1175)

      f : Bool
      f = not (meets r 0x11A8 0x11C2)

      s : Bool
      s = not (meets r 0xAC00 0xD7A3)

      -- c is in none of the blocks
      block : (a b : ℕ) → not (meets r a b) ≡ true → leb a c && leb c b ≡ true → r.class ≡ 0
      block a b n m = outside a b c n h k (leb-true a c (both_left (leb a c) (leb c b) m)) (leb-true c b (both_right (leb a c) (leb c b) m))

      syllable : s ≡ true → is_syllable c ≡ true → r.class ≡ 0
      syllable n m =
          let low : 0xAC00 ≤ c = leb-true 0xAC00 c (both_left (leb 0xAC00 c) (ltb c (first_syllable + syllable_count)) m) in
          let high = ltb-true c (first_syllable + syllable_count) (both_right (leb 0xAC00 c) (ltb c (first_syllable + syllable_count)) m) in
          outside 0xAC00 0xD7A3 c n h k low (omega (arith, high))

      go : (t : Bool) → eqb r.class 0 ≡ t → t || l && v && f && s ≡ true → r.class ≡ 0
      go true q w = eqb-true r.class 0 q
      go false q w =
          let lvf : l && v && f ≡ true = both_left (l && v && f) s w in
          let lv : l && v ≡ true = both_left (l && v) f lvf in
          ⊎_elim
          (λ j. ⊎_elim
          (λ i. ⊎_elim
          (block 0x1100 0x1112 (both_left l v lv))
          (block 0x1161 0x1175 (both_right l v lv))
          (either (is_leading c) (is_vowel c) i))
          (block 0x11A8 0x11C2 (both_right (l && v) f lvf))
          (either (is_leading c || is_vowel c) (is_trailing c) j))
          (syllable (both_right (l && v && f) s w))
          (either (is_jamo c) (is_syllable c) i)

  pub each_spares : r.first ≤ r.last → SparesEach r → spares_hangul r ≡ true
  each_spares o e = go (eqb r.class 0) refl
    where
      -- a block of jamo or syllables that the entry does not meet, since it has a class
      apart : (a b : ℕ) → a ≤ b → ((c : ℕ) → a ≤ c → c ≤ b → is_jamo c || is_syllable c ≡ true) → eqb r.class 0 ≡ false
          → not (meets r a b) ≡ true
      apart a b p hangul q =
          rw (not_so (meets r a b) (λ m. inside a b o p m (λ c h k i j. eqb-false r.class 0 q (e c h k (hangul c i j)))))

      first_of : (a b : Bool) → a ≡ true → a || b ≡ true
      first_of a b q = rw q

      second_of : (a b : Bool) → b ≡ true → a || b ≡ true
      second_of true b q = refl
      second_of false b q = q

      leading : (c : ℕ) → 0x1100 ≤ c → c ≤ 0x1112 → is_jamo c || is_syllable c ≡ true
      leading c i j =
          first_of (is_jamo c) (is_syllable c)
          (first_of (is_leading c || is_vowel c) (is_trailing c)
          (first_of (is_leading c) (is_vowel c) (both (leb 0x1100 c) (leb c 0x1112) (le-leb 0x1100 c i) (le-leb c 0x1112 j))))

      vowel : (c : ℕ) → 0x1161 ≤ c → c ≤ 0x1175 → is_jamo c || is_syllable c ≡ true
      vowel c i j =
          first_of (is_jamo c) (is_syllable c)
          (first_of (is_leading c || is_vowel c) (is_trailing c)
          (second_of (is_leading c) (is_vowel c) (both (leb 0x1161 c) (leb c 0x1175) (le-leb 0x1161 c i) (le-leb c 0x1175 j))))

      trailing : (c : ℕ) → 0x11A8 ≤ c → c ≤ 0x11C2 → is_jamo c || is_syllable c ≡ true
      trailing c i j =
          first_of (is_jamo c) (is_syllable c)
          (second_of (is_leading c || is_vowel c) (is_trailing c)
          (both (leb 0x11A8 c) (leb c 0x11C2) (le-leb 0x11A8 c i) (le-leb c 0x11C2 j)))

      syllable : (c : ℕ) → 0xAC00 ≤ c → c ≤ 0xD7A3 → is_jamo c || is_syllable c ≡ true
      syllable c i j =
          second_of (is_jamo c) (is_syllable c)
          (both (leb 0xAC00 c) (ltb c (first_syllable + syllable_count)) (le-leb 0xAC00 c i)
          (lt-ltb c (first_syllable + syllable_count) (omega arith)))

      go : (t : Bool) → eqb r.class 0 ≡ t → spares_hangul r ≡ true
      go true q = rw q
      go false q =
          rw (
            q,
            apart 0x1100 0x1112 (omega arith) leading q,
            apart 0x1161 0x1175 (omega arith) vowel q,
            apart 0x11A8 0x11C2 (omega arith) trailing q,
            apart 0xAC00 0xD7A3 (omega arith) syllable q,
          )

-- Rule 6 as 01 says it, of every codepoint and of every class entry
pub record Rule6Says (t : Table) : Type 0 where
  -- "Four rounds decompose fully"
  pub full : (c : ℕ) → decomposes_fully t c ≡ true
  -- "heads are distinct"
  pub apart : distinct (heads t) ≡ true
  -- "no head is ASCII, a Hangul syllable or a jamo"
  pub plain : all plain_head (heads t) ≡ true
  -- "no class entry gives a jamo or a syllable a class other than 0"
  pub spares : (r : ClassRange) → Memᴰ r t.classes → SparesEach r

pub rule6_says : (t : Table) → rule6 t ≡ true → Rule6Says t
unfolding decomposes_fully
rule6_says t e =
    let p = rule6_parts t e in
    record {
      full = λ c. rw (fifth_same t p c) (list_same (fully t c));
      apart = p.apart;
      plain = p.plain;
      spares = λ r m. spares_each r (all-at spares_hangul m p.spares);
    }

-- and the other way, where each entry's first is at most its last, as the layout asks
pub says_rule6 : (t : Table) → ((r : ClassRange) → Memᴰ r t.classes → r.first ≤ r.last) → Rule6Says t → rule6 t ≡ true
unfolding rule6
says_rule6 t o s =
    let full : all (decomposes_fully t) (heads t) ≡ true = all_of (decomposes_fully t) (heads t) (λ c m. s.full c) in
    let spares : all spares_hangul t.classes ≡ true = all_of spares_hangul t.classes (λ r m. each_spares r (o r m) (s.spares r m)) in
    rw (full, s.apart, s.plain, spares)
