-- Laws of rule 2: the codepoints of ranges and groups, and the rule by its codepoints.
use Prim.Native.Nat.{ℕ, zero, suc, ◌+◌, ◌-◌, ◌/◌, ◌<◌, ◌≤◌}
use native.Mathlib.Omega.{arith}
use mathlib.Core.Path.{◌≡◌, refl, sym, ◌∙◌, ap}
use mathlib.Core.Bool.{Bool, true, false, not, ◌&&◌, ◌||◌}
use mathlib.Core.List.{List, [], ◌∷◌}
use mathlib.Core.Option
use mathlib.Core.Option.{Option, none, some}
use lib.ListN.{length, get_or, take, drop}
use lib.Bits.{bit_or}
use lib.Dec.{leb, ltb}
use borrow.Author.Tests.{le-leb, lt-leb, lt-ltb, leb-true, ltb-true, ltb-false}
use Rattle.lists.specs.Lists.{all, mem, joined_map, and_then}
use Rattle.lists.specs.Laws.{both_left, both_right}
use Rattle.lists.specs.Tests.{agree, not_so, never, untrue, mem_both, all_both, all-members, member_passes}
use Rattle.sections.specs.declared.Sections.{Sections}
use Rattle.table.specs.Table.{Range, ClassRange, Group, Table}
use Rattle.table.specs.Layout.{in_front, ranges, has_list, flags_fit, group, GroupEnd, group_end, groups, the_table}
use Rattle.table.specs.Lookup.{in_ranges}
use Rattle.sections.specs.Laid.{Laid}
use Rattle.table.specs.Spans.{within}
use Rattle.table.specs.Part.{in_pairs}
use Rattle.sections.proofs.SectionLaws.{laid_reads}
use Rattle.table.proofs.Lookups.{only_if-some, in_front-some, and_then-some, pairs-ranges}
use Rattle.text.specs.Decomposition.{four_rounds}
use Rattle.finder.specs.Emoji.{selector}
use Rattle.scalar.specs.Scalar.{is_scalar}
use Rattle.soundness.specs.Scalars.{scalars_between, scalar_ranges, scalar_group, rule1}
use Rattle.soundness.specs.Valid.{counted_from, listed, group_characters, spellable, rule2}
use Rattle.table.specs.Part.{records_in}
use Rattle.sound_parts.specs.Parts.{is_valid, ranges_scalar, records_scalar, others_scalar, scalar_whole}
use Rattle.sound_parts.proofs.ScalarLaws.{rule1-first}
use Rattle.bit_sets.specs.Sets.{has}
use Rattle.sound_choices.specs.Rounds.{in_groups, after, start_of, WindowOf, Holding}
use Rattle.sound_choices.proofs.RoundLaws.{mem-counted}
use Rattle.sound_choices.proofs.WordLaws.{word_both}
use Rattle.sound_rounds.proofs.ReachLaws.{after-four}
use Rattle.rule_2.specs.Windows.{Passes}
use Rattle.rule_2.specs.Cover.{same, covered_at, spelled, covered}

-- a word of the first set that is what the others' words are together
pub covered-word : (valid groups set : List ℕ) (i : ℕ) → get_or valid i 0 ≡ bit_or (get_or set i 0) (get_or groups i 0) → (d : ℕ) → d / 32 ≡ i
    → covered_at valid groups set d ≡ true
unfolding covered_at
covered-word valid groups set i e d f = rw (word_both valid set groups i d e f) (agrees (has groups d || has set d))
  where
    agrees : (b : Bool) → same b b ≡ true
    agrees true = refl
    agrees false = refl

-- the codepoints of ranges that were read from words
pub mem-listed : (c : ℕ) (ws : List ℕ) (rs : List Range) → ranges ws ≡ some rs → mem c (listed rs) ≡ in_ranges c rs
unfolding ranges listed
mem-listed c [] rs h = let e : rs ≡ [] = cc in rw e
mem-listed c (a ∷ []) rs h = absurd (let z : ◌≡◌ {A = ℕ} 0 1 = cc in omega arith)
mem-listed c (a ∷ b ∷ ws) rs h =
    let k = only_if-some (leb a b) (in_front (record { first = a; last = b }) (ranges ws)) rs h in
    let q = in_front-some (record { first = a; last = b }) (ranges ws) rs k.1 in
    let l : a ≤ b = leb-true _ _ k.0 in
    let n : a + suc (b - a) ≡ suc b = omega arith in
    let s : ltb c (suc b) ≡ leb c b = agree _ _ (λ e. le-leb c b (omega (arith, ltb-true c (suc b) e)))
    (λ e. lt-ltb c (suc b) (omega (arith, leb-true c b e))) in
    rw (q.2, mem_both c (counted_from a (suc (b - a))) (listed q.0), mem-counted c a (suc (b - a)), n, s, mem-listed c ws q.0 q.1)

pub mem-groups : (c k : ℕ) (ws : List ℕ) (gs : List Group) → groups k ws ≡ some gs
    → mem c (joined_map (λ (g : Group). listed g.ranges) gs) ≡ in_groups c gs
unfolding groups
mem-groups c zero [] gs h = let e : gs ≡ [] = cc in rw e
mem-groups c zero (w ∷ ws) gs h = absurd (let z : ◌≡◌ {A = ℕ} 0 1 = cc in omega arith)
mem-groups c (suc k) [] gs h = let e : gs ≡ [] = cc in rw e
mem-groups c (suc k) (f ∷ []) gs h = absurd (let z : ◌≡◌ {A = ℕ} 0 1 = cc in omega arith)
mem-groups c (suc k) (f ∷ n ∷ ws) gs h =
    let last : List Range → GroupEnd → Option (List Group) = λ rs e. in_front (group f rs e.sequences) (groups k e.rest) in
    let then : List Range → Option (List Group) = λ rs. and_then (group_end (has_list f) (drop n ws)) (last rs) in
    let p = only_if-some (flags_fit f && leb n (length ws)) (and_then (ranges (take n ws)) then) gs h in
    let q = and_then-some (ranges (take n ws)) then gs p.1 in
    let u = and_then-some (group_end (has_list f) (drop n ws)) (last q.0) gs q.2 in
    let r = in_front-some (group f q.0 u.0.sequences) (groups k u.0.rest) gs u.2 in
    rw (
      r.2,
      mem_both c (listed q.0) (joined_map (λ (g : Group). listed g.ranges) r.0),
      mem-listed c (take n ws) q.0
          q.1,
      mem-groups c k u.0.rest r.0 r.1,
    )

-- the members of the lists of rule 2, on a table that was read from words
pub record Members (t : Table) : Type 0 where
  pub valid : (c : ℕ) → mem c (listed t.valid) ≡ is_valid t c
  pub groups : (c : ℕ) → mem c (group_characters t) ≡ in_groups c t.groups

pub laid-members : (ws : List ℕ) (ix : Sections) → Laid ws ix → Members (the_table ws)
unfolding group_characters
laid-members ws ix l =
    record {
      valid = λ c. mem-listed c _ _ (laid_reads ws ix l).valid;
      groups = λ c. mem-groups c _ _ _ (laid_reads ws ix l).groups;
    }

-- what rule 2 says, part by part
record Rule2 (t : Table) : Type 0 where
  covered : all (λ c. mem c (spellable t)) (listed t.valid) ≡ true
  inside : all (is_valid t) (spellable t) ≡ true
  stop : is_valid t 0x2E ≡ false
  selects : is_valid t selector ≡ false

rule2_facts : (t : Table) → rule2 t ≡ true → Rule2 t
unfolding rule2
rule2_facts t e =
    let a : Bool = all (λ c. mem c (spellable t)) (listed t.valid) in
    let b : Bool = all (is_valid t) (spellable t) in
    let p : Bool = not (is_valid t 0x2E) in
    let q : Bool = not (is_valid t selector) in
    record {
      covered = both_left a b (both_left (a && b) p (both_left (a && b && p) q e));
      inside = both_right a b (both_left (a && b) p (both_left (a && b && p) q e));
      stop = untrue _ (both_right (a && b) p (both_left (a && b && p) q e));
      selects = untrue _ (both_right (a && b && p) q e);
    }

rule2_made : (t : Table) → Rule2 t → rule2 t ≡ true
unfolding rule2
rule2_made t r = rw (r.covered, r.inside, r.stop, r.selects)

module _ (t : Table) (m : Members t) where
  spellable_member : (c : ℕ) → mem c (spellable t) ≡ in_groups c t.groups || spelled t c
  unfolding spellable spelled
  spellable_member c = mem_both c (group_characters t) (four_rounds t (group_characters t)) ∙ rw (m.groups c)

  spellable-all : (p : ℕ → Bool) → all p (spellable t) ≡ all p (group_characters t) && all p (four_rounds t (group_characters t))
  unfolding spellable
  spellable-all p = all_both p (group_characters t) (four_rounds t (group_characters t))

  -- the parts of the test of one codepoint
  covered-valid : (c : ℕ) → covered t c ≡ true → is_valid t c ≡ true → in_groups c t.groups || spelled t c ≡ true
  unfolding covered
  covered-valid c e v = rw v at e

  covered-spelled : (c : ℕ) → covered t c ≡ true → in_groups c t.groups || spelled t c ≡ true → is_valid t c ≡ true
  unfolding covered
  covered-spelled c e f = go (is_valid t c) (in_groups c t.groups || spelled t c) refl f e
    where
      go : (a b : Bool) → is_valid t c ≡ a → b ≡ true → same a b ≡ true → a ≡ true
      go true b v f e = refl
      go false true v f e = e
      go false false v f e = f

  covered_made : (c : ℕ) → (is_valid t c ≡ true → in_groups c t.groups || spelled t c ≡ true)
      → (in_groups c t.groups || spelled t c ≡ true → is_valid t c ≡ true) → covered t c ≡ true
  unfolding covered
  covered_made c f g = go (is_valid t c) (in_groups c t.groups || spelled t c) f g
    where
      go : (a b : Bool) → (a ≡ true → b ≡ true) → (b ≡ true → a ≡ true) → same a b ≡ true
      go true b f g = f refl
      go false true f g = g refl
      go false false f g = refl

  -- rule 2 holds where each codepoint is covered
  rule2-holds : ((c : ℕ) → covered t c ≡ true) → is_valid t 0x2E ≡ false → is_valid t selector ≡ false → rule2 t ≡ true
  rule2-holds f stop selects =
      rule2_made t
      (record {
        covered = all-members (λ c. mem c (spellable t)) (listed t.valid) (λ c i. spellable_member c ∙ covered-valid c (f c)
            (sym (m.valid c) ∙ i));
        inside = all-members (is_valid t) (spellable t) (λ c i. covered-spelled c (f c) (sym (spellable_member c) ∙ i));
        stop = stop;
        selects = selects;
      })

  -- and only there
  rule2_covers : rule2 t ≡ true → (c : ℕ) → covered t c ≡ true
  rule2_covers k c =
      let r = rule2_facts t k in
      covered_made c
      (λ v. sym (spellable_member c) ∙ member_passes (λ c. mem c (spellable t)) (listed t.valid) r.covered c (m.valid c ∙ v))
      (λ g. member_passes (is_valid t) (spellable t) r.inside c (spellable_member c ∙ g))

pub rule2-stop : (t : Table) → is_valid t 0x2E ≡ true → false ≡ rule2 t
rule2-stop t e = sym (not_so (rule2 t) (λ k. never (is_valid t 0x2E) e (rule2_facts t k).stop))

pub rule2-selector : (t : Table) → is_valid t selector ≡ true → false ≡ rule2 t
rule2-selector t e = sym (not_so (rule2 t) (λ k. never (is_valid t selector) e (rule2_facts t k).selects))

-- under rule 1 no codepoint over 10FFFF is named
ranges_end : (rs : List Range) (d : ℕ) → scalar_ranges rs ≡ true → 0x110000 ≤ d → in_ranges d rs ≡ false
ranges_end [] d e h = refl
ranges_end (r ∷ rs) d e h =
    let b : scalars_between r.first r.last ≡ true = both_left (scalars_between r.first r.last) (scalar_ranges rs) e in
    let l : r.last ≤ 0x10FFFF = leb-true _ _ (both_left (leb r.last 0x10FFFF) (ltb r.last 0xD800 || ltb 0xDFFF r.first) b) in
    rw (lt-leb d r.last (omega arith), ranges_end rs d (both_right (scalars_between r.first r.last) (scalar_ranges rs) e) h)
    (go (leb r.first d))
  where
    go : (a : Bool) → (a && false || false) ≡ false
    go true = refl
    go false = refl

groups_over : (gs : List Group) (d : ℕ) → all scalar_group gs ≡ true → 0x110000 ≤ d → in_groups d gs ≡ false
groups_over [] d e h = refl
groups_over (g ∷ gs) d e h =
    let one : scalar_group g ≡ true = both_left (scalar_group g) (all scalar_group gs) e in
    let pairs : scalar_ranges g.ranges ≡ true = both_left (scalar_ranges g.ranges) (all (all is_scalar) (Option.get_or g.sequences [])) one in
    rw (ranges_end g.ranges d pairs h) (groups_over gs d (both_right (scalar_group g) (all scalar_group gs) e) h)

-- so it is covered
module _ (t : Table) (e : rule1 t ≡ true) where
  valid_over : (d : ℕ) → 0x110000 ≤ d → is_valid t d ≡ false
  unfolding ranges_scalar
  valid_over d h =
      let p : ranges_scalar t && records_scalar t && others_scalar t ≡ true = rule1-first t e in
      let r : ranges_scalar t ≡ true = both_left (ranges_scalar t) (records_scalar t) (both_left (ranges_scalar t && records_scalar t)
      (others_scalar t) p) in
      let a : Bool = scalar_ranges t.valid in
      let b : Bool = scalar_ranges t.ignored in
      let c : Bool = scalar_ranges t.fenced in
      let k : Bool = scalar_ranges t.marks in
      let v : a ≡ true = both_left a b
      (both_left (a && b) c (both_left (a && b && c) k (both_left (a && b && c && k) (scalar_ranges t.nsm) r))) in
      ranges_end t.valid d v h

  pub group_over : (d : ℕ) → 0x110000 ≤ d → in_groups d t.groups ≡ false
  unfolding others_scalar
  group_over d h =
      let p : ranges_scalar t && records_scalar t && others_scalar t ≡ true = rule1-first t e in
      let o : others_scalar t ≡ true = both_right (ranges_scalar t && records_scalar t) (others_scalar t) p in
      let u : Bool = all (λ (r : ClassRange). scalars_between r.first r.last) t.classes in
      let g : all scalar_group t.groups ≡ true = both_right u (all scalar_group t.groups)
      (both_left (u && all scalar_group t.groups) (all scalar_whole t.wholes) o) in
      groups_over t.groups d g h

  covered_over : ((d : ℕ) → 0x110000 ≤ d → spelled t d ≡ false) → (d : ℕ) → 0x110000 ≤ d → covered t d ≡ true
  unfolding covered
  covered_over f d h = rw (valid_over d h, group_over d h, f d h)

  -- the rule, from the test of every codepoint up to 10FFFF
  pub rule2-passes : Members t → ((d : ℕ) → 0x110000 ≤ d → spelled t d ≡ false) → (r : Bool) → Passes (covered t) 0x110000 r
      → is_valid t 0x2E ≡ false → is_valid t selector ≡ false → r ≡ rule2 t
  rule2-passes m f r p stop selects = agree r (rule2 t) yes no
    where
      each : r ≡ true → (c : ℕ) → covered t c ≡ true
      each k c = go (ltb c 0x110000) refl
        where
          go : (b : Bool) → ltb c 0x110000 ≡ b → covered t c ≡ true
          go true q = p.yes k c (ltb-true c 0x110000 q)
          go false q = covered_over f c (ltb-false c 0x110000 q)

      yes : r ≡ true → rule2 t ≡ true
      yes k = rule2-holds t m (each k) stop selects

      no : rule2 t ≡ true → r ≡ true
      no k = go r refl
        where
          go : (b : Bool) → r ≡ b → b ≡ true
          go true q = refl
          go false q = absurd (p.no q (λ c h. rule2_covers t m k c))

-- the sets of a window
pub window_covered : (ws : List ℕ) (ix : Sections) → Laid ws ix → (gs : List ℕ) → records_in groups gs ≡ (the_table ws).groups
    → (base : ℕ) (valid held set : List ℕ)
    → WindowOf valid (λ d. in_pairs (base + d) (within ix.valid ws)) → WindowOf held (λ d. in_groups (base + d) (records_in groups gs))
    → Holding base set (after 4 (the_table ws) (start_of (the_table ws) false)) → (d : ℕ) → d < 0x10000
    → covered_at valid held set d ≡ covered (the_table ws) (base + d)
unfolding covered_at covered spelled start_of
window_covered ws ix l gs e base valid held set u v w d h =
    let a : has valid d ≡ is_valid (the_table ws) (base + d) = u.each d h ∙ pairs-ranges (base + d) _ _ (laid_reads ws ix l).valid in
    let b : has held d ≡ in_groups (base + d) (the_table ws).groups = v.each d h ∙ ap (in_groups (base + d)) e in
    let c : has set d ≡ mem (base + d) (four_rounds (the_table ws) (group_characters (the_table ws)))
    = w.each d h ∙ ap (mem (base + d)) (after-four (the_table ws) (group_characters (the_table ws))) in
    rw (a, b, c)

-- the test of a place
module _ (valid held set : List ℕ) (d : ℕ) (r : Bool) where
  pub covered_held : has valid d ≡ true → r ≡ (has held d || has set d) → r ≡ covered_at valid held set d
  unfolding covered_at
  covered_held e f = rw e f

  pub covered-free : has valid d ≡ false → r ≡ (has held d || has set d) → not r ≡ covered_at valid held set d
  unfolding covered_at
  covered-free e f = rw (e, f)
