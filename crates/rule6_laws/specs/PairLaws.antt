-- What two codepoints compose to decomposes to what they decompose to, on a table that keeps rule 6.
use Rattle.std.specs.Prelude.{ℕ, ◌+◌, ◌≤◌, ◌≡◌, refl, Bool, true, false, not, ◌&&◌, List, [], ◌∷◌, ◌++◌, map, leb, ltb, eqb}
use Rattle.std.proofs.Common.{arith, sym, ◌∙◌, ⊎_elim, eqb-true, eq-eqb, leb-true}
use Rattle.std.proofs.lemmas.Bool.{false≢true, not-true}
use mathlib.Core.List.Memᴰ
use mathlib.Core.List.{Memᴰ}
use Rattle.std.proofs.Math.Option.{some}
use Rattle.lists.specs.Lists.{distinct, mem}
use Rattle.lists.specs.Laws.{both_left, both_right, mem_of}
use Rattle.table.specs.Table.{Table, Headed}
use Rattle.table.specs.Lookup.{items_of}
use Rattle.text.specs.Hangul.{is_syllable, is_jamo, hangul_pair}
use Rattle.text.specs.Decomposition.{single}
use Rattle.text.specs.Composition.{pair}
use Rattle.soundness.specs.Pairs.{plain_head}
use Rattle.text_laws.specs.Rounds.{fully, rounds_cons}
use Rattle.rule6_laws.specs.Stable.{Rule6, head_member, head_plain, head_high, single_other, fully-one, fully-single, fully_syllable, leading_stable, vowel_stable, trailing_stable}
use Rattle.text_laws.specs.Syllables.{MakesTwo, MakesThree, hangul_pair_lem}
use Rattle.text_laws.specs.Pairing.{PairRecord, pair-cases}

-- where heads are distinct, a record's head has that record's items
own_items : (rs : List Headed) (r : Headed) → distinct (map (λ (q : Headed). q.head) rs) ≡ true → Memᴰ r rs → items_of rs r.head ≡ some r.items
unfolding items_of
own_items [] r d m = absurd (Memᴰ.not-nil m)
own_items (q ∷ rs) r d m = ⊎_elim here (λ k. there (eqb q.head r.head) refl k (own_items rs r rest k)) (Memᴰ.cases_cons m)
  where
    others : List ℕ
    others = map (λ (x : Headed). x.head) rs

    rest : distinct others ≡ true
    rest = both_right (not (mem q.head others)) (distinct others) d

    here : r ≡ q → items_of (q ∷ rs) r.head ≡ some r.items
    here e = rw (e, eq-eqb q.head q.head refl)

    there : (b : Bool) → eqb q.head r.head ≡ b → Memᴰ r rs → items_of rs r.head ≡ some r.items → items_of (q ∷ rs) r.head ≡ some r.items
    there false f k e = rw f e
    there true f k e =
        let n : mem q.head others ≡ false = not-true (mem q.head others) (both_left (not (mem q.head others)) (distinct others) d) in
        let y : mem q.head others ≡ true = rw (eqb-true q.head r.head f) (mem_of r.head others (head_member rs r k)) in
        absurd (false≢true (sym n ∙ y))

module _ (t : Table) (r6 : Rule6 t) where
  -- h decomposes to what a and b decompose to
  abbrev Splits : ℕ → ℕ → ℕ → Type 0
  Splits a b h = fully t h ≡ fully t a ++ fully t b

  two_splits : (a b h : ℕ) → MakesTwo a b h → Splits a b h
  two_splits a b h m =
      rw (fully_syllable t r6 h m.syllable, fully-one t a (leading_stable t r6 a m.leading), fully-one t b (vowel_stable t r6 b m.vowel)) m.jamo

  three_splits : (a b h : ℕ) → MakesThree a b h → Splits a b h
  three_splits a b h m =
      rw (fully_syllable t r6 h m.syllable, fully_syllable t r6 a m.before, fully-one t b (trailing_stable t r6 b m.trailing)) m.jamo

  -- the single replacement of a head
  head_single : (r : Headed) → Memᴰ r t.decompositions → single t r.head ≡ r.items
  head_single r m =
      let c = r.head in
      let p : plain_head c ≡ true = head_plain t r6 c (head_member t.decompositions r m) in
      let n : not (is_syllable c) ≡ true = both_right (not (ltb c 0x80)) (not (is_syllable c)) (both_left (not (ltb c 0x80) && not (is_syllable c)) (not (is_jamo c)) p) in
      single_other t c (not-true (is_syllable c) n) ∙ rw (own_items t.decompositions r r6.apart m)

  record_splits : (a b h : ℕ) → PairRecord t a b h → Splits a b h
  record_splits a b h p =
      let e : single t h ≡ a ∷ b ∷ [] = rw (p.of, p.items) at (head_single p.entry p.there) in
      fully-single t r6 h ∙ rw e (rounds_cons t a (b ∷ []))

  -- the result of a pair decomposes to what its two parts decompose to
  pub pair_splits : (a b h : ℕ) → pair t a b ≡ some h → fully t h ≡ fully t a ++ fully t b
  pair_splits a b h e = ⊎_elim hangul (record_splits a b h) (pair-cases t a b h e)
    where
      hangul : hangul_pair a b ≡ some h → Splits a b h
      hangul f = ⊎_elim (two_splits a b h) (three_splits a b h) (hangul_pair_lem a b h f)

  -- the result of a pair is not ASCII
  pub pair_high : (a b h : ℕ) → pair t a b ≡ some h → 0x80 ≤ h
  pair_high a b h e = ⊎_elim hangul entry (pair-cases t a b h e)
    where
      high : is_syllable h ≡ true → 0x80 ≤ h
      high k = omega (arith, leb-true 0xAC00 h (both_left (leb 0xAC00 h) (ltb h (0xAC00 + 11172)) k))

      hangul : hangul_pair a b ≡ some h → 0x80 ≤ h
      hangul f = ⊎_elim (λ m. high m.syllable) (λ m. high m.syllable) (hangul_pair_lem a b h f)

      entry : PairRecord t a b h → 0x80 ≤ h
      entry p = rw (← p.of) (head_high t r6 p.entry.head (head_member t.decompositions p.entry p.there))
