-- Laws of rule 6, head by head.
use Prim.Native.Nat.{ℕ, zero, suc, ◌+◌, ◌-◌, ◌≤◌, ◌/◌, ◌%◌}
use native.Mathlib.Omega.{arith}
use mathlib.Core.Path.{◌≡◌, refl, ap}
use mathlib.Core.Bool.{Bool, true, false, not, ◌&&◌, ◌||◌, cond}
use mathlib.Core.List.{List, [], ◌∷◌}
use mathlib.Core.Option.{Option, none, some, map, get_or}
use lib.ListN.{length, take, drop, length-take}
use lib.Dec.{leb, eqb}
use borrow.Author.Tests.{le-leb, leb-true}
use Rattle.lists.specs.Lists.{all, any, mem, first_with, joined_map, same_list, distinct}
use Rattle.lists.specs.Laws.{Every, every_imp, every_all, all_every, every_member, found_member, same-list, joined_self, joined_fixed, both}
use Rattle.lists.specs.Elements.{list_same}
use Rattle.lists.specs.Tests.{agree}
use Rattle.sections.specs.declared.Sections.{Sections}
use Rattle.table.specs.Table.{Headed, Table}
use Rattle.table.specs.Layout.{most_parts, in_front, count_fits, headed, the_table}
use Rattle.table.specs.Lookup.{items_of}
use Rattle.sections.specs.Laid.{Laid}
use Rattle.sections.proofs.SectionLaws.{laid_reads}
use Rattle.table.proofs.Lookups.{only_if-some, in_front-some}
use Rattle.table.proofs.Records.{count_fits_lem}
use Rattle.text.specs.Hangul.{first_syllable, is_syllable, jamo_of}
use Rattle.text.specs.Decomposition.{single, round, four_rounds}
use Rattle.soundness.specs.Pairs.{decomposes_fully, heads, plain_head, spares_hangul, rule6}
use Rattle.sound_parts.specs.Parts.{record_of}
use Rattle.sound_choices.specs.Rounds.{heads_of}
use Rattle.rule_6.specs.Heads.{is_stable, head_fits, heads_fit}

-- a record has at least one item
has_items : Headed → Bool
has_items r = leb 1 (length r.items)

records_filled : (k most : ℕ) (ws : List ℕ) (rs : List Headed) → headed k most ws ≡ some rs → all has_items rs ≡ true
unfolding headed has_items
records_filled zero most [] rs e = let z : rs ≡ [] = cc in rw z
records_filled zero most (w ∷ ws) rs e = absurd (let z : ◌≡◌ {A = ℕ} 0 1 = cc in omega arith)
records_filled (suc k) most [] rs e = let z : rs ≡ [] = cc in rw z
records_filled (suc k) most (a ∷ []) rs e = absurd (let z : ◌≡◌ {A = ℕ} 0 1 = cc in omega arith)
records_filled (suc k) most (a ∷ n ∷ ws) rs e =
    let r : Headed = record { head = a; items = take n ws } in
    let p = only_if-some (count_fits most n ws) (in_front r (headed k most (drop n ws))) rs e in
    let q = in_front-some r (headed k most (drop n ws)) rs p.1 in
    let f = count_fits_lem most n ws p.0 in
    let l : 1 ≤ length (take n ws) = simp length-take (omega (arith, f.low, f.room)) in
    rw q.2 (both (leb 1 (length (take n ws))) (all has_items q.0) (le-leb _ _ l) (records_filled k most (drop n ws) q.0 q.1))

items_filled : (rs : List Headed) (c : ℕ) → all has_items rs ≡ true → 1 ≤ length (get_or (items_of rs c) (c ∷ []))
unfolding items_of has_items
items_filled rs c h = go (first_with (λ (r : Headed). eqb r.head c) rs) refl
  where
    go : (o : Option Headed) → first_with (λ (r : Headed). eqb r.head c) rs ≡ o → 1 ≤ length (get_or (map (λ (r : Headed). r.items) o) (c ∷ []))
    go none e = omega arith
    go (some r) e = leb-true _ _ (every_member (λ (r : Headed). has_items r ≡ true) rs (all_every has_items rs h) (found_member _ rs r e).0)

jamo_filled : (n : ℕ) → 1 ≤ length (jamo_of n)
jamo_filled n = go (eqb (n % 28) 0)
  where
    go : (b : Bool) → 1 ≤ length (cond b ((0x1100 + n / 588) ∷ (0x1161 + n % 588 / 28) ∷ []) ((0x1100 + n / 588) ∷ (0x1161 + n % 588 / 28) ∷ (0x11A7 + n % 28) ∷ []))
    go true = omega arith
    go false = omega arith

-- a replacement has at least one codepoint
pub single-filled : (ws : List ℕ) (ix : Sections) → Laid ws ix → (c : ℕ) → 1 ≤ length (single (the_table ws) c)
unfolding single
single-filled ws ix l c = go (is_syllable c)
  where
    go : (b : Bool) → 1 ≤ length (cond b (jamo_of (c - first_syllable)) (get_or (items_of (the_table ws).decompositions c) (c ∷ [])))
    go true = jamo_filled (c - first_syllable)
    go false = items_filled (the_table ws).decompositions c (records_filled _ most_parts _ _ (laid_reads ws ix l).decompositions)

-- a round changes nothing exactly where no codepoint decomposes further
module _ (t : Table) (filled : (c : ℕ) → 1 ≤ length (single t c)) where
  fixed_stable : (s : List ℕ) → same_list (joined_map (single t) s) s ≡ true → all (is_stable t) s ≡ true
  unfolding is_stable
  fixed_stable s e =
      let f : Every (λ x. single t x ≡ x ∷ []) s = joined_fixed (single t) filled s (same-list _ _ e) in
      every_all (is_stable t) s (every_imp s (λ x k. rw k (list_same (x ∷ []))) f)

  stable_fixed : (s : List ℕ) → all (is_stable t) s ≡ true → same_list (joined_map (single t) s) s ≡ true
  unfolding is_stable
  stable_fixed s e =
      let f : Every (λ x. single t x ≡ x ∷ []) s = every_imp s (λ x k. same-list _ _ k) (all_every (is_stable t) s e) in
      rw (joined_self (single t) s f) (list_same s)

  pub fully_is : (c : ℕ) → all (is_stable t) (four_rounds t (c ∷ [])) ≡ decomposes_fully t c
  unfolding decomposes_fully round
  fully_is c = let s = four_rounds t (c ∷ []) in agree _ _ (stable_fixed s) (fixed_stable s)

-- a head is one of the heads where a record has it
pub head_among : (rs : List Headed) (c : ℕ) → any (λ (r : Headed). eqb c r.head) rs ≡ mem c (heads_of rs)
head_among [] c = refl
head_among (r ∷ rs) c = ap (λ b. eqb c r.head || b) (head_among rs c)

-- the first head, and the later ones
module _ (h : ℕ) (s : List ℕ) (later : List Headed) where
  heads_step : (m p : Bool) → mem h (heads_of later) ≡ m → plain_head h ≡ p → heads_fit (record_of h s ∷ later) ≡ cond (p && not m) (heads_fit later) false
  unfolding heads_fit
  heads_step false true f g = rw (f, g)
  heads_step false false f g = rw (f, g) (ends (distinct (heads_of later)))
    where
      ends : (a : Bool) → a && false ≡ false
      ends true = refl
      ends false = refl
  heads_step true p f g = rw f (ends p)
    where
      ends : (p : Bool) → false ≡ cond (p && false) (heads_fit later) false
      ends true = refl
      ends false = refl

  heads-split : heads_fit (record_of h s ∷ later) ≡ cond (head_fits h later) (heads_fit later) false
  unfolding head_fits
  heads-split = heads_step (mem h (heads_of later)) (plain_head h) refl refl

  pub head_broken : head_fits h later ≡ false → false ≡ heads_fit (record_of h s ∷ later)
  head_broken e = rw (heads-split, e)

  pub head_later : head_fits h later ≡ true → heads_fit (record_of h s ∷ later) ≡ heads_fit later
  head_later e = rw (heads-split, e)

pub heads-none : true ≡ heads_fit []
unfolding heads_fit
heads-none = refl

pub rule6_is : (t : Table) (rs : List Headed) → rs ≡ t.decompositions → rule6 t ≡ heads_fit rs && all (decomposes_fully t) (heads t) && all spares_hangul t.classes
unfolding heads_fit rule6
rule6_is t rs e = rw e (go (all (decomposes_fully t) (heads t)) (distinct (heads t)) (all plain_head (heads t)) (all spares_hangul t.classes))
  where
    go : (a b c d : Bool) → a && b && c && d ≡ (b && c) && a && d
    go true true true d = refl
    go true true false d = refl
    go true false c d = refl
    go false true true d = refl
    go false true false d = refl
    go false false c d = refl
