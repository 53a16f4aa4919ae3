-- Rule 8 is asked of heads, second items and Hangul; where rule 6 holds it says the same of every number.
use Rattle.std.specs.Prelude.{ℕ, ◌+◌, ◌-◌, ◌*◌, ◌/◌, ◌%◌, ◌≤◌, ◌≡◌, ◌&&◌, ◌||◌, ◌⊎◌, leb, ltb}
use Rattle.std.proofs.Common.{arith, sym, ap, ◌∙◌, inl, inr, eqb-true, leb-true}
use Rattle.std.proofs.Math.Path.{refl}
use Rattle.std.proofs.Math.Bool.{Bool, true, false, not}
use mathlib.Core.List.{List, [], ◌∷◌, Memᴰ}
use Rattle.std.proofs.Math.Logic.{⊎_elim}
use Rattle.std.proofs.Math.Dec.{eqb}
use Rattle.lists.specs.Lists.{all, any, is_empty, same_list}
use Rattle.lists.specs.Laws.{Every, every_imp, of_each, both_left, both_right, either, decided, same-list}
use Rattle.lists.specs.Members.{all-at, all_of, any_passing}
use Rattle.lists.specs.Elements.{list_same}
use Rattle.lists.specs.Tests.{never, untrue}
use Rattle.table.specs.Table.{Table, Headed}
use Rattle.table.specs.Lookup.{in_quick_check}
use Rattle.text.specs.Hangul.{is_leading, is_vowel, is_trailing, is_syllable, jamo_of}
use Rattle.text.specs.Decomposition.{class_of}
use Rattle.text.specs.Ordering.{order, nfd}
use Rattle.text.specs.Composition.{first_item, pairs, compose_after, compose, nfc}
use Rattle.text.specs.QuickCheck.{second_item, is_second, Quick}
use Rattle.text_laws.specs.Insertion.{insert_nil, order_nil, order_cons, starter_front}
use Rattle.text_laws.specs.Composing.{after_nil, after-taken, compose_nil, compose_starter, compose_mark, starter_or_mark}
use Rattle.soundness.specs.Valid.{counted_from}
use Rattle.soundness.specs.Pairs.{heads, rule6}
use Rattle.soundness.specs.QuickCheck.{passes8, second_items, syllables_of, second_syllables, vowels, trailings, concerned, rule8}
use Rattle.soundness.specs.Concerned.{leading_passes, syllables_pass, seconds_pass, asks_each, rule8_parts, counted_member}
use Rattle.rule6_laws.specs.Stable.{Rule6, Stable, rule6_parts, single_other, fully-one, fully_syllable, no_record_or_head, syllable_number}
use Rattle.quick_laws.specs.Own.{Takes}
use Rattle.quick_local.specs.Local.{outside}
use Rattle.quick_local.specs.Jamo.{Spelled, spelled, jamos, jamo_starter}

-- "it holds every codepoint that isn't its own NFC and every one whose full decomposition starts with the second item of a composition pair,
-- Hangul included", said of c, which it does not hold
pub record Free (t : Table) (c : ℕ) : Type 0 where
  pub own : nfc t (c ∷ []) ≡ c ∷ []
  pub start : is_second t (first_item (nfd t (c ∷ []))) ≡ false

module _ (t : Table) where
  -- text of starters is in order
  starters_stay : (s : List ℕ) → Every (λ x. class_of t x ≡ 0) s → order t s ≡ s
  starters_stay [] h = order_nil t
  starters_stay (c ∷ s) h = order_cons t c s ∙ rw (starters_stay s h.1) (starter_front t c s h.0)

  -- a starter that takes in all that follows
  taken-all : (s : ℕ) (r : List ℕ) (c : ℕ) → Takes t s r c → compose_after t s [] r ≡ c ∷ []
  taken-all s [] c k = after_nil t s [] ∙ ap (λ (x : ℕ). x ∷ []) k
  taken-all s (x ∷ r) c k = after-taken t s [] x r k.0 k.1 ∙ taken-all k.0 r c k.2

  one_ordered : (c : ℕ) → order t (c ∷ []) ≡ c ∷ []
  one_ordered c = order_cons t c [] ∙ rw (order_nil t) (insert_nil t c)

  one-composed : (c : ℕ) → compose t (c ∷ []) ≡ c ∷ []
  one-composed c =
      ⊎_elim (λ z. compose_starter t c [] z ∙ after_nil t c []) (λ z. compose_mark t c [] z ∙ ap (λ (r : List ℕ). c ∷ r) (compose_nil t)) (starter_or_mark t c)

  -- what decomposes no further is its own full decomposition and NFC
  stable_nfd : (c : ℕ) → Stable t c → nfd t (c ∷ []) ≡ c ∷ []
  unfolding nfd
  stable_nfd c h = rw (fully-one t c h) (one_ordered c)

  nfc_of : (c : ℕ) (d : List ℕ) → nfd t (c ∷ []) ≡ d → compose t d ≡ c ∷ [] → nfc t (c ∷ []) ≡ c ∷ []
  unfolding nfc
  nfc_of c d e k = rw e k

  stable_free : (c : ℕ) → Stable t c → is_second t c ≡ false → Free t c
  stable_free c h n =
      record { own = nfc_of c (c ∷ []) (stable_nfd c h) (one-composed c); start = ap (λ (d : List ℕ). is_second t (first_item d)) (stable_nfd c h) ∙ n }

  -- a syllable's full decomposition is its jamo, and they are composed to it again
  module _ (r6 : Rule6 t) (c : ℕ) (h : is_syllable c ≡ true) (w : Spelled t c) where
    syllable_nfd : nfd t (c ∷ []) ≡ w.first ∷ w.rest
    unfolding nfd
    syllable_nfd =
        rw (fully_syllable t r6 c h)
        (starters_stay (jamo_of (c - 0xAC00)) (every_imp (jamo_of (c - 0xAC00)) (jamo_starter t) (jamos (c - 0xAC00) (syllable_number c h))) ∙ w.is)

    syllable_own : nfc t (c ∷ []) ≡ c ∷ []
    syllable_own =
        nfc_of c (w.first ∷ w.rest) syllable_nfd
        (compose_starter t w.first w.rest (jamo_starter t w.first (rw w.leading)) ∙ taken-all w.first w.rest c w.takes)

    syllable_free : is_second t w.first ≡ false → Free t c
    syllable_free n = record { own = syllable_own; start = ap (λ (d : List ℕ). is_second t (first_item d)) syllable_nfd ∙ n }

  -- what the test of a codepoint says
  pub passed_free : (c : ℕ) → passes8 t c ≡ true → outside t c ≡ true → Free t c
  unfolding passes8
  passed_free c e o =
      ⊎_elim (λ i. never (in_quick_check t c) i (untrue (in_quick_check t c) o))
      (λ f. record { own = same-list (nfc t (c ∷ [])) (c ∷ []) (both_left same alone f); start = untrue (is_second t (first_item (nfd t (c ∷ [])))) (both_right same alone f) })
      (either (in_quick_check t c) (same && alone) e)
    where
      same : Bool
      same = same_list (nfc t (c ∷ [])) (c ∷ [])

      alone : Bool
      alone = not (is_second t (first_item (nfd t (c ∷ []))))

  pub free_passed : (c : ℕ) → (outside t c ≡ true → Free t c) → passes8 t c ≡ true
  unfolding passes8
  free_passed c f = go (in_quick_check t c) refl
    where
      go : (b : Bool) → in_quick_check t c ≡ b → b || same_list (nfc t (c ∷ [])) (c ∷ []) && not (is_second t (first_item (nfd t (c ∷ [])))) ≡ true
      go true e = refl
      go false e = let k = f (rw e) in rw (k.own, k.start, list_same (c ∷ []))

-- the jamo of a syllable start with its leading consonant, and the syllable is among that one's
first_jamo : (s : ℕ) → first_item (jamo_of s) ≡ 0x1100 + s / 588
first_jamo s = of_each (λ d. first_item d ≡ 0x1100 + s / 588) (eqb (s % 28) 0) _ _ refl refl

own_syllable : (t : Table) (c : ℕ) → is_syllable c ≡ true → (w : Spelled t c) → Memᴰ c (syllables_of w.first)
unfolding syllables_of
own_syllable t c h w =
    let s = c - 0xAC00 in
    let l : w.first ≡ 0x1100 + s / 588 = sym (ap first_item w.is) ∙ first_jamo s in
    let n : (w.first - 0x1100) * 588 ≡ s / 588 * 588 = rw l (omega arith) in
    let low : 0xAC00 ≤ c = leb-true 0xAC00 c (both_left (leb 0xAC00 c) (ltb c (0xAC00 + 11172)) h) in
    counted_member (0xAC00 + (w.first - 0x1100) * 588) 588 c (omega (arith, n, low)) (omega (arith, n, low))

leading_member : (l : ℕ) → is_leading l ≡ true → Memᴰ l (counted_from 0x1100 19)
leading_member l h =
    let low : 0x1100 ≤ l = leb-true 0x1100 l (both_left (leb 0x1100 l) (leb l 0x1112) h) in
    let high : l ≤ 0x1112 = leb-true l 0x1112 (both_right (leb 0x1100 l) (leb l 0x1112) h) in
    counted_member 0x1100 19 l low (omega arith)

-- what rule 8 asks, part by part
record Parts (t : Table) : Type 0 where
  vowel : all (passes8 t) vowels ≡ true
  trailing : all (passes8 t) trailings ≡ true
  syllables : all (leading_passes t) (counted_from 0x1100 19) ≡ true
  seconds : all (λ (r : Headed). passes8 t (second_item r.items)) (pairs t) ≡ true
  head : all (passes8 t) (heads t) ≡ true

asked_parts : (t : Table) → asks_each t ≡ true → Parts t
asked_parts t e =
    let v = all (passes8 t) vowels in
    let r = all (passes8 t) trailings in
    let s = all (passes8 t) (second_syllables t) in
    let i = all (passes8 t) (second_items t) in
    let h = all (passes8 t) (heads t) in
    let vrsi : (v && r && s && i) ≡ true = both_left (v && r && s && i) h e in
    let vrs : (v && r && s) ≡ true = both_left (v && r && s) i vrsi in
    let vr : (v && r) ≡ true = both_left (v && r) s vrs in
    record {
      vowel = both_left v r vr;
      trailing = both_right v r vr;
      syllables = sym (syllables_pass t) ∙ both_right (v && r) s vrs;
      seconds = sym (seconds_pass t) ∙ both_right (v && r && s) i vrsi;
      head = both_right (v && r && s && i) h e;
    }

module _ (t : Table) (r6 : Rule6 t) (k : Parts t) where
  -- a second item is asked
  second-passes : (c : ℕ) → is_second t c ≡ true → passes8 t c ≡ true
  unfolding is_second
  second-passes c h = ⊎_elim (λ j. ⊎_elim vowel trailing (either (is_vowel c) (is_trailing c) j)) entry (either (is_vowel c || is_trailing c) (any at (pairs t)) h)
    where
      at : Headed → Bool
      at r = eqb (second_item r.items) c

      vowel : is_vowel c ≡ true → passes8 t c ≡ true
      vowel j =
          let low : 0x1161 ≤ c = leb-true 0x1161 c (both_left (leb 0x1161 c) (leb c 0x1175) j) in
          let high : c ≤ 0x1175 = leb-true c 0x1175 (both_right (leb 0x1161 c) (leb c 0x1175) j) in
          all-at (passes8 t) (counted_member 0x1161 21 c low (omega arith)) k.vowel

      trailing : is_trailing c ≡ true → passes8 t c ≡ true
      trailing j =
          let low : 0x11A8 ≤ c = leb-true 0x11A8 c (both_left (leb 0x11A8 c) (leb c 0x11C2) j) in
          let high : c ≤ 0x11C2 = leb-true c 0x11C2 (both_right (leb 0x11A8 c) (leb c 0x11C2) j) in
          all-at (passes8 t) (counted_member 0x11A8 27 c low (omega arith)) k.trailing

      entry : any at (pairs t) ≡ true → passes8 t c ≡ true
      entry j =
          let q = any_passing at (pairs t) j in
          rw (← eqb-true (second_item q.element.items) c q.passes) (all-at (λ (r : Headed). passes8 t (second_item r.items)) q.member k.seconds)

  -- so is each syllable whose leading consonant is one
  syllable_passes : (c : ℕ) → is_syllable c ≡ true → (w : Spelled t c) → is_second t w.first ≡ true → passes8 t c ≡ true
  syllable_passes c h w j =
      let a : leading_passes t w.first ≡ true = all-at (leading_passes t) (leading_member w.first w.leading) k.syllables in
      let b : all (passes8 t) (syllables_of w.first) ≡ true = rw j at a in
      all-at (passes8 t) (own_syllable t c h w) b

  -- every number that the set does not hold
  each_free : (c : ℕ) → outside t c ≡ true → Free t c
  each_free c o = go (is_syllable c) refl
    where
      asked : passes8 t c ≡ true → Free t c
      asked p = passed_free t c p o

      alone : Stable t c → Free t c
      alone s = ⊎_elim (λ j. asked (second-passes c j)) (stable_free t c s) (decided (is_second t c))

      go : (b : Bool) → is_syllable c ≡ b → Free t c
      go true h =
          let w = spelled t c h in
          ⊎_elim (λ j. asked (syllable_passes c h w j)) (syllable_free t r6 c h w) (decided (is_second t w.first))
      go false h =
          ⊎_elim (λ e. alone (single_other t c h ∙ rw e)) (λ m. asked (all-at (passes8 t) m k.head)) (no_record_or_head t.decompositions c)

-- Rule 8 as 02 says it, of every number: "if it isn't empty, it holds every codepoint that isn't its own NFC and every one whose full
-- decomposition starts with the second item of a composition pair, Hangul included."
abbrev pub Rule8Says : Table → Type 0
Rule8Says t = (is_empty t.quick_check ≡ true) ⊎ Quick t (outside t)

pub rule8_says : (t : Table) → rule6 t ≡ true → rule8 t ≡ true → Rule8Says t
rule8_says t r6 e =
    ⊎_elim (λ n. inl n) (λ a. inr (quick (asked_parts t a))) (either (is_empty t.quick_check) (asks_each t) (sym (rule8_parts t) ∙ e))
  where
    quick : Parts t → Quick t (outside t)
    quick k =
        record {
          own = λ c o. (each_free t (rule6_parts t r6) k c o).own;
          start = λ c o. (each_free t (rule6_parts t r6) k c o).start;
        }

-- and the other way, on every table
pub says_rule8 : (t : Table) → Rule8Says t → rule8 t ≡ true
unfolding rule8
says_rule8 t s = ⊎_elim (λ n. rw n) held s
  where
    held : Quick t (outside t) → is_empty t.quick_check || all (passes8 t) (concerned t) ≡ true
    held q = second (is_empty t.quick_check) (all_of (passes8 t) (concerned t) (λ c m. free_passed t c (λ o. record { own = q.own c o; start = q.start c o })))
      where
        second : (a : Bool) → all (passes8 t) (concerned t) ≡ true → a || all (passes8 t) (concerned t) ≡ true
        second true e = refl
        second false e = e
