-- Under rule 1 the heads of decompositions and what is reached from codepoints by rounds are codepoints up to 10FFFF.
use Prim.Native.Nat.{ℕ, ◌+◌, ◌-◌, ◌/◌, ◌%◌, ◌<◌, ◌≤◌}
use native.Mathlib.Omega.{arith}
use mathlib.Core.Path.{◌≡◌, refl, sym, ◌∙◌}
use mathlib.Core.Bool.{Bool, true, false, not, ◌&&◌, cond}
use mathlib.Core.List.{List, [], ◌∷◌}
use mathlib.Core.Option.{Option, none, some, map, get_or}
use lib.ListN.{length-take, length-drop}
use lib.Dec.{leb, ltb, eqb}
use borrow.Author.Tests.{lt-ltb, ltb-true, ltb-false, leb-true, le-ltb}
use Rattle.lists.specs.Lists.{all, first_with, mem, joined_map}
use Rattle.lists.specs.Laws.{both, both_left, both_right, every_imp, every_all, all_every, every_member, found_member}
use Rattle.lists.specs.Tests.{all_both, all-members, member_passes, not_so, never}
use Rattle.sections.specs.declared.Sections.{Sections}
use Rattle.table.specs.Table.{Headed, Table}
use Rattle.table.specs.Lookup.{items_of}
use Rattle.sections.specs.Laid.{Laid}
use Rattle.table.specs.Spans.{within}
use Rattle.table.specs.Layout.{the_table}
use Rattle.sections.proofs.SectionLaws.{laid_small}
use Rattle.scalar.specs.Scalar.{is_surrogate, is_scalar}
use Rattle.text.specs.Hangul.{first_syllable, syllable_count, is_syllable, jamo_of}
use Rattle.text.specs.Decomposition.{single, round, four_rounds}
use Rattle.soundness.specs.Scalars.{scalar_headed, rule1}
use Rattle.soundness.specs.Valid.{group_characters}
use Rattle.sound_parts.specs.Parts.{ranges_scalar, records_scalar, others_scalar}
use Rattle.sound_parts.proofs.ScalarLaws.{rule1-first}
use Rattle.sound_parts.proofs.SectionsHold.{decompositions_hold, decompositions_are, groups_hold, groups_are}
use Rattle.sound_choices.specs.Rounds.{heads_of, in_groups}
use Rattle.sound_choices.specs.Choices.{is_point}
use Rattle.sound_rounds.specs.Reached.{PartsOf}
use Rattle.rule_2.specs.Cover.{spelled}
use Rattle.rule_2.proofs.CoverLaws.{laid-members, group_over, Members}

scalar_point : (c : ℕ) → is_scalar c ≡ true → is_point c ≡ true
scalar_point c e = let h : c ≤ 0x10FFFF = leb-true c 0x10FFFF (both_left (leb c 0x10FFFF) (not (is_surrogate c)) e) in lt-ltb c 0x110000
    (omega arith)

-- a record of scalar values
scalar_in : Headed → Bool
scalar_in r = is_scalar r.head && all is_scalar r.items

module _ (t : Table) (e : rule1 t ≡ true) where
  records_scalar_lem : all scalar_in t.decompositions ≡ true
  unfolding records_scalar scalar_in
  records_scalar_lem =
      let p : ranges_scalar t && records_scalar t && others_scalar t ≡ true = rule1-first t e in
      let r : records_scalar t ≡ true = both_right (ranges_scalar t) (records_scalar t) (both_left (ranges_scalar t && records_scalar t)
      (others_scalar t) p) in
      let a : Bool = scalar_headed t.mapped in
      let b : Bool = scalar_headed t.decompositions in
      let x : Bool = all (all is_scalar) t.emoji in
      both_right a b (both_left (a && b) x (both_left (a && b && x) (all is_scalar t.exclusions) r))

  pub heads_points : all is_point (heads_of t.decompositions) ≡ true
  unfolding scalar_in
  heads_points = go t.decompositions records_scalar_lem
    where
      go : (rs : List Headed) → all scalar_in rs ≡ true → all is_point (heads_of rs) ≡ true
      go [] f = refl
      go (r ∷ rs) f =
          both (is_point r.head) (all is_point (heads_of rs))
          (scalar_point r.head (both_left (is_scalar r.head) (all is_scalar r.items) (both_left (scalar_in r) (all scalar_in rs) f)))
          (go rs (both_right (scalar_in r) (all scalar_in rs) f))

  items_points : (c : ℕ) → c < 0x110000 → all is_point (get_or (items_of t.decompositions c) (c ∷ [])) ≡ true
  unfolding items_of scalar_in
  items_points c h = go (first_with (λ (r : Headed). eqb r.head c) t.decompositions) refl
    where
      go : (o : Option Headed) → first_with (λ (r : Headed). eqb r.head c) t.decompositions ≡ o
          → all is_point (get_or (map (λ (r : Headed). r.items) o) (c ∷ [])) ≡ true
      go none f = both (is_point c) true (lt-ltb c 0x110000 h) refl
      go (some r) f =
          let k : scalar_in r ≡ true = every_member (λ (r : Headed). scalar_in r ≡ true) t.decompositions
          (all_every scalar_in t.decompositions records_scalar_lem) (found_member _ t.decompositions r f).0 in
          every_all is_point r.items (every_imp r.items scalar_point (all_every is_scalar r.items (both_right (is_scalar r.head)
          (all is_scalar r.items) k)))

  jamo_points : (n : ℕ) → n < 11172 → all is_point (jamo_of n) ≡ true
  jamo_points n h = go (eqb (n % 28) 0)
    where
      l : is_point (0x1100 + n / 588) ≡ true
      l = lt-ltb (0x1100 + n / 588) 0x110000 (omega arith)

      v : is_point (0x1161 + n % 588 / 28) ≡ true
      v = lt-ltb (0x1161 + n % 588 / 28) 0x110000 (omega arith)

      e' : is_point (0x11A7 + n % 28) ≡ true
      e' = lt-ltb (0x11A7 + n % 28) 0x110000 (omega arith)

      go : (b : Bool) → all is_point (cond b ((0x1100 + n / 588) ∷ (0x1161 + n % 588 / 28) ∷ [])
          ((0x1100 + n / 588) ∷ (0x1161 + n % 588 / 28) ∷ (0x11A7 + n % 28) ∷ [])) ≡ true
      go true = rw (l, v)
      go false = rw (l, v, e')

  pub single_points : (c : ℕ) → c < 0x110000 → all is_point (single t c) ≡ true
  unfolding single
  single_points c h = go (is_syllable c) refl
    where
      go : (b : Bool) → is_syllable c ≡ b → all is_point (cond b (jamo_of (c - first_syllable)) (get_or (items_of t.decompositions c)
          (c ∷ []))) ≡ true
      go true f = jamo_points (c - first_syllable)
          (omega (
            arith,
            ltb-true c (first_syllable + syllable_count) (both_right (leb first_syllable c)
                (ltb c (first_syllable + syllable_count)) f),
          ))
      go false f = items_points c h

  round_points : (s : List ℕ) → all is_point s ≡ true → all is_point (round t s) ≡ true
  unfolding round
  round_points [] f = refl
  round_points (c ∷ s) f =
      all_both is_point (single t c) (joined_map (single t) s)
      ∙ both (all is_point (single t c)) (all is_point (joined_map (single t) s))
      (single_points c (ltb-true c 0x110000 (both_left (is_point c) (all is_point s) f)))
      (round_points s (both_right (is_point c) (all is_point s) f))

  pub four_points : (s : List ℕ) → all is_point s ≡ true → all is_point (four_rounds t s) ≡ true
  unfolding four_rounds
  four_points s f =
      let a : all is_point (round t s) ≡ true = round_points s f in
      let b : all is_point (round t (round t s)) ≡ true = round_points (round t s) a in
      let c : all is_point (round t (round t (round t s))) ≡ true = round_points (round t (round t s)) b in
      round_points (round t (round t (round t s))) c

  -- no codepoint over 10FFFF is in the full decomposition of a group's character
  pub spelled_over : Members t → (d : ℕ) → 0x110000 ≤ d → spelled t d ≡ false
  unfolding spelled
  spelled_over m d h =
      not_so _ (λ i. never (is_point d) (member_passes is_point (four_rounds t (group_characters t))
      (four_points (group_characters t) characters) d i) (le-ltb d 0x110000 h))
    where
      characters : all is_point (group_characters t) ≡ true
      characters = all-members is_point (group_characters t) (λ c i. go c i (ltb c 0x110000) refl)
        where
          go : (c : ℕ) → mem c (group_characters t) ≡ true → (b : Bool) → ltb c 0x110000 ≡ b → b ≡ true
          go c i true q = refl
          go c i false q = never (in_groups c t.groups) (sym (m.groups c) ∙ i) (group_over t e c (ltb-false c 0x110000 q))

-- the sections of a table that keeps rule 1
pub parts_of : (ws : List ℕ) (ix : Sections) → Laid ws ix → rule1 (the_table ws) ≡ true
    → PartsOf (the_table ws) (within ix.decompositions ws) (within ix.groups ws)
parts_of ws ix l e =
    record {
      heads_hold = decompositions_hold ws ix l;
      heads_are = decompositions_are ws ix l;
      short = simp (length-take, length-drop) (omega (arith, laid_small ws ix l));
      points = heads_points (the_table ws) e;
      groups_hold = groups_hold ws ix l;
      groups_are = groups_are ws ix l;
      characters = (laid-members ws ix l).groups;
    }
