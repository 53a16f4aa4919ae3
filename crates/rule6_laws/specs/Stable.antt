-- Decomposition on a table that keeps rule 6: it ends, in codepoints that decompose no further.
use Rattle.std.specs.Prelude.{ℕ, ◌+◌, ◌-◌, ◌/◌, ◌%◌, ◌≤◌, ◌<◌, ◌≡◌, refl, Bool, true, false, not, ◌&&◌, ◌||◌, cond, List, [], ◌∷◌, map, ◌⊎◌, leb, ltb, eqb}
use Rattle.std.proofs.Common.{arith, sym, ap, ◌∙◌, inl, inr, ⊎_elim, eqb-true, leb-true, ltb-true, ltb-false, le-leb}
use Rattle.std.proofs.lemmas.Bool.{false≢true, eqb-false, lt-leb, not-true}
use mathlib.Core.List.Memᴰ
use mathlib.Core.List.{Memᴰ}
use Rattle.std.proofs.Math.Option.{Option, none, some, get_or}
use Rattle.lists.specs.Lists.{all, distinct, first_with}
use Rattle.lists.specs.Laws.{Every, all_every, every_member, every_append, both, both_left, both_right, either, found_member, joined_self, joined_fixed, same-list}
use Rattle.table.specs.Table.{Table, Headed}
use Rattle.table.specs.Lookup.{items_of}
use Rattle.text.specs.Hangul.{is_leading, is_vowel, is_trailing, is_jamo, is_syllable, jamo_of}
use Rattle.text.specs.Decomposition.{single, round, four_rounds}
use Rattle.soundness.specs.Pairs.{decomposes_fully, heads, plain_head, spares_hangul, rule6}
use Rattle.text_laws.specs.Parsed.{Shaped}
use Rattle.text_laws.specs.Rounds.{fully, single_fit, round-one, rounds_are, round_shift, rounds_cons, rounds_nil}

-- the codepoint decomposes no further
abbrev pub Stable : Table → ℕ → Type 0
Stable t c = single t c ≡ c ∷ []

-- what rule 6 says, part by part
pub record Rule6 (t : Table) : Type 0 where
  pub full : all (decomposes_fully t) (heads t) ≡ true
  pub apart : distinct (heads t) ≡ true
  pub plain : all plain_head (heads t) ≡ true
  pub spares : all spares_hangul t.classes ≡ true

pub rule6_parts : (t : Table) → rule6 t ≡ true → Rule6 t
unfolding rule6
rule6_parts t h =
    let abc : (full && apart && plain) ≡ true = both_left (full && apart && plain) spares h in
    let ab : (full && apart) ≡ true = both_left (full && apart) plain abc in
    record {
      full = both_left full apart ab;
      apart = both_right full apart ab;
      plain = both_right (full && apart) plain abc;
      spares = both_right (full && apart && plain) spares h;
    }
  where
    full : Bool
    full = all (decomposes_fully t) (heads t)

    apart : Bool
    apart = distinct (heads t)

    plain : Bool
    plain = all plain_head (heads t)

    spares : Bool
    spares = all spares_hangul t.classes

-- the head of a record is among the heads
pub head_member : (rs : List Headed) (r : Headed) → Memᴰ r rs → Memᴰ r.head (map (λ (q : Headed). q.head) rs)
head_member [] r m = absurd (Memᴰ.not-nil m)
head_member (q ∷ rs) r m = ⊎_elim (λ e. Memᴰ.head (ap (λ (x : Headed). x.head) e)) (λ k. Memᴰ.tail (head_member rs r k)) (Memᴰ.cases_cons m)

-- a codepoint has no record, or is a head
pub no_record_or_head : (rs : List Headed) (c : ℕ) → (items_of rs c ≡ none) ⊎ Memᴰ c (map (λ (q : Headed). q.head) rs)
unfolding items_of
no_record_or_head rs c = go (first_with at rs) refl
  where
    at : Headed → Bool
    at r = eqb r.head c

    go : (o : Option Headed) → first_with at rs ≡ o → (items_of rs c ≡ none) ⊎ Memᴰ c (map (λ (q : Headed). q.head) rs)
    go none e = inl (rw e)
    go (some r) e =
        let f = found_member at rs r e in
        inr (rw (← eqb-true r.head c f.1) (head_member rs r f.0))

module _ (t : Table) where
  -- the clauses of a single replacement
  pub single_syllable : (c : ℕ) → is_syllable c ≡ true → single t c ≡ jamo_of (c - 0xAC00)
  unfolding single
  single_syllable c h = rw h

  pub single_other : (c : ℕ) → is_syllable c ≡ false → single t c ≡ get_or (items_of t.decompositions c) (c ∷ [])
  unfolding single
  single_other c h = rw h

  pub round_stable : (s : List ℕ) → Every (Stable t) s → round t s ≡ s
  unfolding round
  round_stable s h = joined_self (single t) s h

  -- four rounds leave stable text as it is
  pub rounds_stable : (s : List ℕ) → Every (Stable t) s → four_rounds t s ≡ s
  unfolding four_rounds
  rounds_stable s h = rw (round_stable s h, round_stable s h, round_stable s h) (round_stable s h)

  -- where a single replacement gives stable text, that is the full decomposition
  pub fully-settled : (c : ℕ) (s : List ℕ) → single t c ≡ s → Every (Stable t) s → fully t c ≡ s
  fully-settled c s e h =
      rw (rounds_are t (c ∷ []), round-one t c, e, round_stable s h, round_stable s h) (round_stable s h)

  -- a codepoint that decomposes no further
  pub fully-one : (c : ℕ) → Stable t c → fully t c ≡ c ∷ []
  fully-one c h = fully-settled c (c ∷ []) h (h, tt)

  pub head_same : (c : ℕ) → decomposes_fully t c ≡ true → round t (fully t c) ≡ fully t c
  unfolding decomposes_fully
  head_same c h = same-list (round t (fully t c)) (fully t c) h

pub syllable_number : (c : ℕ) → is_syllable c ≡ true → c - 0xAC00 < 11172
syllable_number c h = omega (arith, ltb-true c (0xAC00 + 11172) (both_right (leb 0xAC00 c) (ltb c (0xAC00 + 11172)) h))

-- jamo are no syllables
pub below_syllables : (c : ℕ) → c < 0xAC00 → is_syllable c ≡ false
below_syllables c h = rw (lt-leb 0xAC00 c h)

pub jamo_low : (c : ℕ) → is_jamo c ≡ true → c < 0xAC00
jamo_low c h = ⊎_elim (λ k. ⊎_elim leading vowel (either (is_leading c) (is_vowel c) k)) trailing (either (is_leading c || is_vowel c) (is_trailing c) h)
  where
    leading : is_leading c ≡ true → c < 0xAC00
    leading k = omega (arith, leb-true c 0x1112 (both_right (leb 0x1100 c) (leb c 0x1112) k))

    vowel : is_vowel c ≡ true → c < 0xAC00
    vowel k = omega (arith, leb-true c 0x1175 (both_right (leb 0x1161 c) (leb c 0x1175) k))

    trailing : is_trailing c ≡ true → c < 0xAC00
    trailing k = omega (arith, leb-true c 0x11C2 (both_right (leb 0x11A8 c) (leb c 0x11C2) k))

pub leading_test : (c : ℕ) → 0x1100 ≤ c → c ≤ 0x1112 → is_leading c ≡ true
leading_test c h k = both (leb 0x1100 c) (leb c 0x1112) (le-leb 0x1100 c h) (le-leb c 0x1112 k)

pub vowel_test : (c : ℕ) → 0x1161 ≤ c → c ≤ 0x1175 → is_vowel c ≡ true
vowel_test c h k = both (leb 0x1161 c) (leb c 0x1175) (le-leb 0x1161 c h) (le-leb c 0x1175 k)

pub trailing_test : (c : ℕ) → 0x11A8 ≤ c → c ≤ 0x11C2 → is_trailing c ≡ true
trailing_test c h k = both (leb 0x11A8 c) (leb c 0x11C2) (le-leb 0x11A8 c h) (le-leb c 0x11C2 k)

or_left : (a b : Bool) → a ≡ true → (a || b) ≡ true
or_left true b h = refl
or_left false b h = absurd (false≢true h)

or_right : (a b : Bool) → b ≡ true → (a || b) ≡ true
or_right true b h = refl
or_right false b h = h

module _ (t : Table) (r6 : Rule6 t) where
  -- a head is neither ASCII nor a syllable nor a jamo
  pub head_plain : (c : ℕ) → Memᴰ c (heads t) → plain_head c ≡ true
  head_plain c m = every_member (λ x. plain_head x ≡ true) (heads t) (all_every plain_head (heads t) r6.plain) m

  -- what is no syllable and no head decomposes no further
  no_head_stable : (c : ℕ) → is_syllable c ≡ false → (Memᴰ c (heads t) → ⊥) → Stable t c
  no_head_stable c h n = single_other t c h ∙ ⊎_elim alone (λ m. absurd (n m)) (no_record_or_head t.decompositions c)
    where
      alone : items_of t.decompositions c ≡ none → get_or (items_of t.decompositions c) (c ∷ []) ≡ c ∷ []
      alone e = rw e

  -- a jamo decomposes no further
  pub jamo_stable : (c : ℕ) → is_jamo c ≡ true → Stable t c
  jamo_stable c h = no_head_stable c (below_syllables c (jamo_low c h)) head
    where
      head : Memᴰ c (heads t) → ⊥
      head m =
          let n : not (is_jamo c) ≡ true = both_right (not (ltb c 0x80) && not (is_syllable c)) (not (is_jamo c)) (head_plain c m) in
          false≢true (rw h at n)

  -- heads are not ASCII
  pub head_high : (c : ℕ) → Memᴰ c (heads t) → 0x80 ≤ c
  head_high c m =
      let n : not (ltb c 0x80) ≡ true = both_left (not (ltb c 0x80)) (not (is_syllable c)) (both_left (not (ltb c 0x80) && not (is_syllable c)) (not (is_jamo c)) (head_plain c m)) in
      ltb-false c 0x80 (not-true (ltb c 0x80) n)

  -- an ASCII codepoint decomposes no further
  pub ascii_stable : (c : ℕ) → c < 0x80 → Stable t c
  ascii_stable c h = no_head_stable c (below_syllables c (omega arith)) (λ m. omega (arith, head_high c m))

  pub leading_stable : (c : ℕ) → is_leading c ≡ true → Stable t c
  leading_stable c h = jamo_stable c (or_left (is_leading c || is_vowel c) (is_trailing c) (or_left (is_leading c) (is_vowel c) h))

  pub vowel_stable : (c : ℕ) → is_vowel c ≡ true → Stable t c
  vowel_stable c h = jamo_stable c (or_left (is_leading c || is_vowel c) (is_trailing c) (or_right (is_leading c) (is_vowel c) h))

  pub trailing_stable : (c : ℕ) → is_trailing c ≡ true → Stable t c
  trailing_stable c h = jamo_stable c (or_right (is_leading c || is_vowel c) (is_trailing c) h)

  -- so do the jamo of a syllable
  pub jamos_stable : (s : ℕ) → s < 11172 → Every (Stable t) (jamo_of s)
  jamos_stable s h = go (eqb (s % 28) 0) refl
    where
      l_stable : Stable t (0x1100 + s / 588)
      l_stable = leading_stable (0x1100 + s / 588) (leading_test (0x1100 + s / 588) (omega arith) (omega arith))

      v_stable : Stable t (0x1161 + s % 588 / 28)
      v_stable = vowel_stable (0x1161 + s % 588 / 28) (vowel_test (0x1161 + s % 588 / 28) (omega arith) (omega arith))

      go : (b : Bool) → eqb (s % 28) 0 ≡ b
          → Every (Stable t) (cond b ((0x1100 + s / 588) ∷ (0x1161 + s % 588 / 28) ∷ []) ((0x1100 + s / 588) ∷ (0x1161 + s % 588 / 28) ∷ (0x11A7 + s % 28) ∷ []))
      go true e = (l_stable, (v_stable, tt))
      go false e =
          (l_stable, (v_stable, (trailing_stable (0x11A7 + s % 28) (trailing_test (0x11A7 + s % 28) (omega (arith, eqb-false (s % 28) 0 e)) (omega arith)), tt)))

  -- a fifth round changes nothing
  pub fifth_same : (c : ℕ) → round t (fully t c) ≡ fully t c
  fifth_same c = go (is_syllable c) refl
    where
      settled : (s : List ℕ) → single t c ≡ s → Every (Stable t) s → round t (fully t c) ≡ fully t c
      settled s e h = rw (fully-settled t c s e h) (round_stable t s h)

      go : (b : Bool) → is_syllable c ≡ b → round t (fully t c) ≡ fully t c
      go true h = settled (jamo_of (c - 0xAC00)) (single_syllable t c h) (jamos_stable (c - 0xAC00) (syllable_number c h))
      go false h = ⊎_elim alone (λ m. head_same t c (every_member (λ x. decomposes_fully t x ≡ true) (heads t) (all_every (decomposes_fully t) (heads t) r6.full) m)) (no_record_or_head t.decompositions c)
        where
          alone : items_of t.decompositions c ≡ none → round t (fully t c) ≡ fully t c
          alone e =
              let k : single t c ≡ c ∷ [] = single_other t c h ∙ rw e in
              settled (c ∷ []) k (k, tt)

  -- a codepoint and its single replacement have the same full decomposition
  pub fully-single : (c : ℕ) → fully t c ≡ four_rounds t (single t c)
  fully-single c = rw (← round-one t c, round_shift t (c ∷ [])) (sym (fifth_same c))

  -- a syllable's full decomposition is its jamo
  pub fully_syllable : (c : ℕ) → is_syllable c ≡ true → fully t c ≡ jamo_of (c - 0xAC00)
  fully_syllable c h = fully-settled t c (jamo_of (c - 0xAC00)) (single_syllable t c h) (jamos_stable (c - 0xAC00) (syllable_number c h))

-- where each record has an item, too
module _ (t : Table) (fit : Shaped t) (r6 : Rule6 t) where
  -- every codepoint of a full decomposition decomposes no further
  pub fully_stable : (c : ℕ) → Every (Stable t) (fully t c)
  unfolding round
  fully_stable c = joined_fixed (single t) (λ x. (single_fit t fit x).0) (fully t c) (fifth_same t r6 c)

  pub rounds-all_stable : (s : List ℕ) → Every (Stable t) (four_rounds t s)
  rounds-all_stable [] = rw (rounds_nil t) tt
  rounds-all_stable (c ∷ s) = rw (rounds_cons t c s) (every_append (Stable t) (fully t c) (four_rounds t s) (fully_stable c) (rounds-all_stable s))

  -- full decomposition twice is full decomposition
  pub rounds-twice : (s : List ℕ) → four_rounds t (four_rounds t s) ≡ four_rounds t s
  rounds-twice s = rounds_stable t (four_rounds t s) (rounds-all_stable s)
