-- What rules 1 to 5 of soundness say of codepoints and sequences, as they are used here.
use Rattle.std.specs.Prelude.{ℕ, zero, suc, ◌+◌, ◌-◌, ◌≤◌, ◌<◌, ◌≡◌, refl, Bool, true, false, not, ◌&&◌, ◌||◌, leb, ltb, eqb}
use Rattle.std.proofs.Common.{arith, sym, ⊎_elim, leb-true, ltb-true, le-leb, eqb-true}
use mathlib.Core.List.Memᴰ
use mathlib.Core.List.{List, [], ◌∷◌, ◌++◌, Memᴰ}
use Rattle.std.proofs.Math.Option.{Option, none, some, map, none-ne-some, some-injective}
use Rattle.std.proofs.lemmas.Bool.{not-true, lt-leb, eqb-false}
use Rattle.lists.specs.Lists.{all, mem, on_some, first_with}
use Rattle.lists.specs.Laws.{Every, all_every, every_member, every_front, every_back, every_imp, joined_every, both, both_left, both_right, either, found_member, member_of}
use Rattle.lists.specs.Members.{any_passing}
use Rattle.lists.specs.Elements.{place_none, joined_member}
use Rattle.table.specs.Table.{Table, Range, ClassRange, Headed, Group, Whole}
use Rattle.table.specs.Layout.{parse}
use Rattle.table.specs.Lookup.{in_range, in_ranges, items_of, holds}
use Rattle.scalar.specs.Scalar.{is_surrogate, is_scalar}
use Rattle.text.specs.Decomposition.{four_rounds}
use Rattle.finder.specs.Emoji.{selector}
use Rattle.soundness.specs.Scalars.{scalars_between, scalar_ranges, scalar_headed, scalar_group, rule1}
use Rattle.soundness.specs.Valid.{counted_from, listed, group_characters, spellable, rule2, rule3}
use Rattle.soundness.specs.Sequences.{rule4, rule5}
use Rattle.soundness.specs.Pairs.{rule6, rule7}
use Rattle.soundness.specs.QuickCheck.{rule8}
use Rattle.soundness.specs.Soundness.{lowest_broken, soundness_of}
use Rattle.text_laws.specs.Parsed.{Shaped, parsed_shaped}
use Rattle.text_laws.specs.Rounds.{fully, rounds_cons, rounds_each}
use Rattle.rule6_laws.specs.Stable.{Stable, fully-one}
use Rattle.rule6_laws.specs.Laws.{rounds_are_stable}

-- the rules that the table keeps
pub record Sound (t : Table) : Type 0 where
  pub rule_1 : rule1 t ≡ true
  pub rule_2 : rule2 t ≡ true
  pub rule_3 : rule3 t ≡ true
  pub rule_4 : rule4 t ≡ true
  pub rule_5 : rule5 t ≡ true
  pub rule_6 : rule6 t ≡ true
  pub shaped : Shaped t

kept : (b : Bool) → not b ≡ false → b ≡ true
kept true e = refl
kept false e = sym e

-- a table that the check calls sound keeps them
pub sound_table : (words : List ℕ) → soundness_of words ≡ none → (t : Table) → parse words ≡ some t → Sound t
unfolding soundness_of lowest_broken
sound_table words sound t laid =
    let unbroken : on_some (some t) lowest_broken (some 0) ≡ none = rw laid at sound in
    let rules = place_none (λ (rule : Table → Bool). not (rule t)) 1 (rule1 ∷ rule2 ∷ rule3 ∷ rule4 ∷ rule5 ∷ rule6 ∷ rule7 ∷ rule8 ∷ []) unbroken in
    record {
      rule_1 = kept (rule1 t) rules.0;
      rule_2 = kept (rule2 t) rules.1.0;
      rule_3 = kept (rule3 t) rules.1.1.0;
      rule_4 = kept (rule4 t) rules.1.1.1.0;
      rule_5 = kept (rule5 t) rules.1.1.1.1.0;
      rule_6 = kept (rule6 t) rules.1.1.1.1.1.0;
      shaped = parsed_shaped words t laid;
    }

-- the codepoint is valid
abbrev pub Valid : Table → ℕ → Type 0
Valid t c = in_ranges c t.valid ≡ true

-- Rule 1

between_scalar : (c : ℕ) (r : Range) → in_range c r ≡ true → scalars_between r.first r.last ≡ true → is_scalar c ≡ true
between_scalar c r h k =
    let low : r.first ≤ c = leb-true r.first c (both_left (leb r.first c) (leb c r.last) h) in
    let high : c ≤ r.last = leb-true c r.last (both_right (leb r.first c) (leb c r.last) h) in
    let most : r.last ≤ 0x10FFFF = leb-true r.last 0x10FFFF (both_left (leb r.last 0x10FFFF) (ltb r.last 0xD800 || ltb 0xDFFF r.first) k) in
    let out = either (ltb r.last 0xD800) (ltb 0xDFFF r.first) (both_right (leb r.last 0x10FFFF) (ltb r.last 0xD800 || ltb 0xDFFF r.first) k) in
    ⊎_elim (λ e. let below : r.last < 0xD800 = ltb-true r.last 0xD800 e in rw (le-leb c 0x10FFFF (omega arith), lt-leb 0xD800 c (omega arith)))
    (λ e. let above : 0xDFFF < r.first = ltb-true 0xDFFF r.first e in both (leb c 0x10FFFF) (not (is_surrogate c)) (le-leb c 0x10FFFF (omega arith)) (over (leb 0xD800 c) (leb c 0xDFFF) (lt-leb c 0xDFFF (omega arith))))
    out
  where
    over : (a b : Bool) → b ≡ false → not (a && b) ≡ true
    over true b e = rw e
    over false b e = refl

ranges_scalar : (rs : List Range) (c : ℕ) → scalar_ranges rs ≡ true → in_ranges c rs ≡ true → is_scalar c ≡ true
ranges_scalar rs c h k =
    let m = any_passing (in_range c) rs k in
    between_scalar c m.element m.passes (every_member (λ (r : Range). scalars_between r.first r.last ≡ true) rs (all_every (λ (r : Range). scalars_between r.first r.last) rs h) m.member)

-- the parts of rule 1 that are used
record Rule1 (t : Table) : Type 0 where
  valid : scalar_ranges t.valid ≡ true
  emoji : all (λ s. all is_scalar s) t.emoji ≡ true

first_of-three : (a b c : Bool) → (a && b && c) ≡ true → a ≡ true
first_of-three a b c h = both_left a b (both_left (a && b) c h)

first_of-four : (a b c d : Bool) → (a && b && c && d) ≡ true → a ≡ true
first_of-four a b c d h = first_of-three a b c (both_left (a && b && c) d h)

rule1_parts : (t : Table) → rule1 t ≡ true → Rule1 t
unfolding rule1
rule1_parts t h =
    let valid : Bool = scalar_ranges t.valid in
    let ignored : Bool = scalar_ranges t.ignored in
    let emoji : Bool = all (λ s. all is_scalar s) t.emoji in
    let to-fenced : Bool = valid && ignored && scalar_ranges t.fenced in
    let to-nsm : Bool = to-fenced && scalar_ranges t.marks && scalar_ranges t.nsm in
    let to-decompositions : Bool = to-nsm && scalar_headed t.mapped && scalar_headed t.decompositions in
    let to-exclusions : Bool = to-decompositions && emoji && all is_scalar t.exclusions in
    let classes : Bool = all (λ (r : ClassRange). scalars_between r.first r.last) t.classes in
    let groups : Bool = all scalar_group t.groups in
    let wholes : Bool = all (λ (w : Whole). all is_scalar (w.valid ++ w.confused)) t.wholes in
    let to-wholes : Bool = to-exclusions && classes && groups && wholes in
    let w : to-wholes ≡ true = first_of-three to-wholes (scalar_ranges t.escape) (scalar_ranges t.quick_check) h in
    let a : to-exclusions ≡ true = first_of-four to-exclusions classes groups wholes w in
    let b : (to-decompositions && emoji) ≡ true = both_left (to-decompositions && emoji) (all is_scalar t.exclusions) a in
    let c : to-nsm ≡ true = first_of-three to-nsm (scalar_headed t.mapped) (scalar_headed t.decompositions) (both_left to-decompositions emoji b) in
    let d : to-fenced ≡ true = first_of-three to-fenced (scalar_ranges t.marks) (scalar_ranges t.nsm) c in
    record { valid = first_of-three valid ignored (scalar_ranges t.fenced) d; emoji = both_right to-decompositions emoji b }

pub valid_scalar : (t : Table) → Sound t → (c : ℕ) → Valid t c → is_scalar c ≡ true
valid_scalar t s c h = ranges_scalar t.valid c (rule1_parts t s.rule_1).valid h

pub emoji_scalar : (t : Table) → Sound t → (seq : List ℕ) → Memᴰ seq t.emoji → Every (λ c. is_scalar c ≡ true) seq
emoji_scalar t s seq m =
    all_every is_scalar seq (every_member (λ (q : List ℕ). all is_scalar q ≡ true) t.emoji (all_every (λ q. all is_scalar q) t.emoji (rule1_parts t s.rule_1).emoji) m)

-- Rule 2

-- counting from a meets every codepoint before its end
counted_member : (n a c : ℕ) → a ≤ c → c < a + n → Memᴰ c (counted_from a n)
unfolding counted_from
counted_member zero a c h k = absurd (omega arith)
counted_member (suc n) a c h k = go (eqb c a) refl (counted_member n (suc a) c)
  where
    go : (b : Bool) → eqb c a ≡ b → (suc a ≤ c → c < suc a + n → Memᴰ c (counted_from (suc a) n)) → Memᴰ c (a ∷ counted_from (suc a) n)
    go true e later = Memᴰ.head (eqb-true c a e)
    go false e later = let other = eqb-false c a e in Memᴰ.tail (later (omega arith) (omega arith))

pub listed_member : (rs : List Range) (c : ℕ) → in_ranges c rs ≡ true → Memᴰ c (listed rs)
unfolding listed
listed_member rs c h =
    let m = any_passing (in_range c) rs h in
    let r : Range = m.element in
    let low : r.first ≤ c = leb-true r.first c (both_left (leb r.first c) (leb c r.last) m.passes) in
    let high : c ≤ r.last = leb-true c r.last (both_right (leb r.first c) (leb c r.last) m.passes) in
    joined_member (λ (q : Range). counted_from q.first (suc (q.last - q.first))) rs m.member
    (counted_member (suc (r.last - r.first)) r.first c low (omega arith))

record Rule2 (t : Table) : Type 0 where
  spells : all (λ c. mem c (spellable t)) (listed t.valid) ≡ true
  valid : all (λ c. in_ranges c t.valid) (spellable t) ≡ true
  stop : not (in_ranges 0x2E t.valid) ≡ true
  selector : not (in_ranges selector t.valid) ≡ true

rule2_parts : (t : Table) → rule2 t ≡ true → Rule2 t
unfolding rule2
rule2_parts t h =
    let a : Bool = all (λ c. mem c (spellable t)) (listed t.valid) in
    let b : Bool = all (λ c. in_ranges c t.valid) (spellable t) in
    let c : Bool = not (in_ranges 0x2E t.valid) in
    let d : Bool = not (in_ranges selector t.valid) in
    let abc : (a && b && c) ≡ true = both_left (a && b && c) d h in
    let ab : (a && b) ≡ true = both_left (a && b) c abc in
    record { spells = both_left a b ab; valid = both_right a b ab; stop = both_right (a && b) c abc; selector = both_right (a && b && c) d h }

every_spellable : (t : Table) → Sound t → Every (Valid t) (spellable t)
every_spellable t s = all_every (λ c. in_ranges c t.valid) (spellable t) (rule2_parts t s.rule_2).valid

-- what a group holds is valid
pub group-valid : (t : Table) → Sound t → (g : Group) → Memᴰ g t.groups → (c : ℕ) → holds g c ≡ true → Valid t c
unfolding spellable group_characters
group-valid t s g m c h =
    every_member (Valid t) (spellable t) (every_spellable t s) (joined_tokens_by (listed_member g.ranges c h))
  where
    joined_tokens_by : Memᴰ c (listed g.ranges) → Memᴰ c (spellable t)
    joined_tokens_by k = Memᴰ.append_left (four_rounds t (group_characters t)) (joined_member (λ (q : Group). listed q.ranges) t.groups m k)

-- what holds of the full decomposition of a text holds of that of each codepoint
rounds_part : (P : ℕ → Type 0) (t : Table) (s : List ℕ) (c : ℕ) → Memᴰ c s → Every P (four_rounds t s) → Every P (four_rounds t (c ∷ []))
rounds_part P t [] c m h = absurd (Memᴰ.not-nil m)
rounds_part P t (x ∷ s) c m h =
    let parts : Every P (fully t x ++ four_rounds t s) = rw (← rounds_cons t x s) h in
    ⊎_elim (λ e. rw e (every_front P (fully t x) (four_rounds t s) parts)) (λ k. rounds_part P t s c k (every_back P (fully t x) (four_rounds t s) parts)) (Memᴰ.cases_cons m)

-- the full decomposition of a valid codepoint is valid
pub valid-rounds : (t : Table) → Sound t → (c : ℕ) → Valid t c → Every (Valid t) (four_rounds t (c ∷ []))
unfolding spellable
valid-rounds t s c h =
    let joined_tokens = every_member (λ x. mem x (spellable t) ≡ true) (listed t.valid) (all_every (λ x. mem x (spellable t)) (listed t.valid) (rule2_parts t s.rule_2).spells) (listed_member t.valid c h) in
    let parts = every_back (Valid t) (group_characters t) (four_rounds t (group_characters t)) (every_spellable t s) in
    ⊎_elim (λ m. rounds_part (Valid t) t (group_characters t) c m parts)
    (λ m. let still : Stable t c = every_member (Stable t) (four_rounds t (group_characters t)) (rounds_are_stable t s.shaped s.rule_6 (group_characters t)) m in rw (fully-one t c still) (h, tt))
    (Memᴰ.append_cases (group_characters t) (member_of c (spellable t) joined_tokens))

-- so is that of a valid text
pub valid-text-rounds : (t : Table) → Sound t → (r : List ℕ) → Every (Valid t) r → Every (Valid t) (four_rounds t r)
valid-text-rounds t s r h = rw (rounds_each t r) (joined_every (fully t) (Valid t) r (every_imp r (valid-rounds t s) h))

pub stop_not_valid : (t : Table) → Sound t → in_ranges 0x2E t.valid ≡ false
stop_not_valid t s = not-true (in_ranges 0x2E t.valid) (rule2_parts t s.rule_2).stop

pub selector_not_valid : (t : Table) → Sound t → in_ranges selector t.valid ≡ false
selector_not_valid t s = not-true (in_ranges selector t.valid) (rule2_parts t s.rule_2).selector

-- Rule 3

pub items_valid : (t : Table) → Sound t → (c : ℕ) (items : List ℕ) → items_of t.mapped c ≡ some items → Every (Valid t) items
unfolding items_of rule3
items_valid t s c items = go (first_with at t.mapped) refl
  where
    at : Headed → Bool
    at r = eqb r.head c

    go : (o : Option Headed) → first_with at t.mapped ≡ o → map (λ (r : Headed). r.items) o ≡ some items → Every (Valid t) items
    go none e f = absurd (none-ne-some items f)
    go (some r) e f =
        let m = (found_member at t.mapped r e).0 in
        let here : all (λ x. in_ranges x t.valid) r.items ≡ true = every_member (λ (q : Headed). all (λ x. in_ranges x t.valid) q.items ≡ true) t.mapped (all_every (λ (q : Headed). all (λ x. in_ranges x t.valid) q.items) t.mapped s.rule_3) m in
        rw (← some-injective r.items items f) (all_every (λ x. in_ranges x t.valid) r.items here)
