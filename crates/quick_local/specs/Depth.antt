-- Rule 6 from what the walks see: heads that ascend are distinct, and records over records that stand in three levels decompose fully in four
-- rounds.
use Rattle.std.specs.Prelude.{ℕ, zero, suc, ◌-◌, ◌<◌, ◌≡◌, false, not, ◌&&◌, ◌⊎◌, ltb}
use Rattle.std.proofs.Common.{arith, ap, ◌∙◌, inl, inr, ⊎_elim, eqb-true}
use Rattle.std.proofs.Math.Path.{refl}
use Rattle.std.proofs.Math.Bool.{Bool, true}
use mathlib.Core.List.{List, [], ◌∷◌, map, Memᴰ}
use Rattle.std.proofs.Math.Option
use Rattle.std.proofs.Math.Option.{Option, none, some, get_or}
use Rattle.std.proofs.Math.Dec.{eqb}
use Rattle.lists.specs.Lists.{all, distinct, first_with, mem}
use Rattle.lists.specs.Laws.{Every, every_imp, every_of_all, both_right, found_member, joined_every, mem_of, member_of}
use Rattle.lists.specs.Elements.{list_same}
use Rattle.lists.specs.Members.{all-at, all_of, passing_any}
use Rattle.lists.specs.Tests.{never, not_so, untrue}
use Rattle.table.specs.Table.{Table, Headed}
use Rattle.table.specs.Lookup.{items_of}
use Rattle.heads.specs.Heads.{rising}
use Rattle.heads.proofs.Rising.{rise_first}
use Rattle.text.specs.Hangul.{is_jamo, is_syllable, jamo_of}
use Rattle.text.specs.Decomposition.{single, round, four_rounds}
use Rattle.soundness.specs.Pairs.{decomposes_fully, heads, plain_head, rule6}
use Rattle.text_laws.specs.Rounds.{fully}
use Rattle.rule6_laws.specs.Stable.{Stable, head_member, round_stable, single_syllable, single_other, syllable_number}
use Rattle.quick_local.specs.Local.{is_head, Lifts, Levels, Local}
use Rattle.quick_local.specs.Jamo.{jamo_no_syllable, jamos}

-- heads that ascend from above c: c is not among them
pub rise_apart : (f c : ℕ) (rs : List Headed) → rising f rs ≡ true → c < f → mem c (map (λ (r : Headed). r.head) rs) ≡ false
rise_apart f c [] h i = refl
rise_apart f c (r ∷ rs) h i =
    let p = rise_first f r rs h in
    let n : eqb c r.head ≡ false = not_so (eqb c r.head) (λ e. omega (arith, p.0, i, eqb-true c r.head e)) in
    rw (n, rise_apart (suc r.head) c rs p.1 (omega (arith, p.0, i)))

-- heads that ascend are distinct
pub rise_distinct : (f : ℕ) (rs : List Headed) → rising f rs ≡ true → distinct (map (λ (r : Headed). r.head) rs) ≡ true
rise_distinct f [] h = refl
rise_distinct f (r ∷ rs) h =
    let p = rise_first f r rs h in
    rw (rise_apart (suc r.head) r.head rs p.1 (omega arith), rise_distinct (suc r.head) rs p.1)

module _ (t : Table) where
  -- the record that a head decomposes by
  pub record Replaced (c : ℕ) : Type 0 where
    pub entry : Headed
    pub there : Memᴰ entry t.decompositions
    pub of : entry.head ≡ c
    pub is : single t c ≡ entry.items

  -- what is no syllable decomposes no further, or by a record
  pub single-cases : (c : ℕ) → is_syllable c ≡ false → Stable t c ⊎ Replaced c
  unfolding items_of
  single-cases c h = go (first_with at t.decompositions) refl
    where
      at : Headed → Bool
      at r = eqb r.head c

      go : (o : Option Headed) → first_with at t.decompositions ≡ o → Stable t c ⊎ Replaced c
      go none e = inl (single_other t c h ∙ ap (λ (p : Option Headed). get_or (Option.map (λ (r : Headed). r.items) p) (c ∷ [])) e)
      go (some r) e =
          let f = found_member at t.decompositions r e in
          inr (record { entry = r; there = f.0; of = eqb-true r.head c f.1; is = single_other t c h ∙ ap (λ (p : Option Headed). get_or (Option.map (λ (q : Headed). q.items) p) (c ∷ [])) e })

  pub head_there : (r : Headed) → Memᴰ r t.decompositions → is_head t r.head ≡ true
  head_there r m = mem_of r.head (heads t) (head_member t.decompositions r m)

  -- what is neither a head nor a syllable decomposes no further
  pub no_head_stable : (c : ℕ) → is_head t c ≡ false → is_syllable c ≡ false → Stable t c
  no_head_stable c n h = ⊎_elim (λ s. s) (λ (r : Replaced c). never (is_head t c) (rw (← r.of) (head_there r.entry r.there)) n) (single-cases c h)

  -- after n rounds nothing of c decomposes further
  abbrev pub Within : ℕ → ℕ → Type 0
  Within zero c = Stable t c
  Within (suc n) c = Every (Within n) (single t c)

  stable_within : (n c : ℕ) → Stable t c → Within n c
  stable_within zero c h = h
  stable_within (suc n) c h = rw h (stable_within n c h, tt)

  round-within : (n : ℕ) (s : List ℕ) → Every (Within (suc n)) s → Every (Within n) (round t s)
  unfolding round
  round-within n s h = joined_every (single t) (Within n) s h

  four_stable : (s : List ℕ) → Every (Within 4) s → Every (Stable t) (four_rounds t s)
  unfolding four_rounds
  four_stable s h =
      let a : Every (Within 3) (round t s) = round-within 3 s h in
      let b : Every (Within 2) (round t (round t s)) = round-within 2 (round t s) a in
      let c : Every (Within 1) (round t (round t (round t s))) = round-within 1 (round t (round t s)) b in
      round-within 0 (round t (round t (round t s))) c

  -- four rounds decompose fully
  within_full : (c : ℕ) → Within 4 c → decomposes_fully t c ≡ true
  unfolding decomposes_fully
  within_full c h =
      let e : round t (fully t c) ≡ fully t c = round_stable t (fully t c) (four_stable (c ∷ []) (h, tt)) in
      rw e (list_same (fully t c))

  module _ (plain : all plain_head (heads t) ≡ true) where
    pub jamo_no_head : (c : ℕ) → is_jamo c ≡ true → is_head t c ≡ false
    jamo_no_head c h = not_so (is_head t c) no
      where
        no : is_head t c ≡ true → ⊥
        no m =
            let p : plain_head c ≡ true = all-at plain_head (member_of c (heads t) m) plain in
            never (is_jamo c) h (untrue (is_jamo c) (both_right (not (ltb c 0x80) && not (is_syllable c)) (not (is_jamo c)) p))

    jamo_within : (n c : ℕ) → is_jamo c ≡ true → Within n c
    jamo_within n c h = stable_within n c (no_head_stable c (jamo_no_head c h) (jamo_no_syllable c h))

    syllable_within : (n c : ℕ) → is_syllable c ≡ true → Within (suc n) c
    syllable_within n c h = rw (single_syllable t c h) (every_imp (jamo_of (c - 0xAC00)) (jamo_within n) (jamos (c - 0xAC00) (syllable_number c h)))

    one-round : (c : ℕ) → is_head t c ≡ false → Within 1 c
    one-round c n = go (is_syllable c) refl
      where
        go : (b : Bool) → is_syllable c ≡ b → Within 1 c
        go true h = syllable_within 0 c h
        go false h = stable_within 1 c (no_head_stable c n h)

    -- a level more, a round more
    lifted : (n : ℕ) (from to : ℕ → Bool) → Lifts t.decompositions from to → ((x : ℕ) → from x ≡ false → Within n x) → (c : ℕ) → to c ≡ false → Within (suc n) c
    lifted n from to up below c k = go (is_syllable c) refl
      where
        entry : Replaced c → Within (suc n) c
        entry r = rw r.is (every_of_all (Within n) r.entry.items item)
          where
            item : (x : ℕ) → Memᴰ x r.entry.items → Within n x
            item x m = below x (not_so (from x) (λ e. never (to c) (rw (← r.of) (up r.entry r.there (passing_any from m e))) k))

        go : (b : Bool) → is_syllable c ≡ b → Within (suc n) c
        go true h = syllable_within n c h
        go false h = ⊎_elim (stable_within (suc n) c) entry (single-cases c h)

    pub levels_within : Levels t.decompositions (is_head t) → (c : ℕ) → Within 4 c
    levels_within v c =
        let two = lifted 1 (is_head t) v.low v.first one-round in
        let three = lifted 2 v.low v.high v.second two in
        lifted 3 v.high (λ x. false) v.last three c refl

  -- rule 6
  pub found-rule6 : Local t → rule6 t ≡ true
  unfolding rule6
  found-rule6 h =
      let full : all (decomposes_fully t) (heads t) ≡ true = all_of (decomposes_fully t) (heads t) (λ c m. within_full c (levels_within h.plain h.levels c)) in
      rw (full, rise_distinct 0 t.decompositions h.rises, h.plain, h.spares)
