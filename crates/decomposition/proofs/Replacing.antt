-- What a single replacement puts in the place of a codepoint, one by one.
use Prim.Native.Nat.{ℕ, ◌+◌, ◌-◌, ◌/◌, ◌%◌, ◌≤◌, ◌<◌}
use native.Mathlib.Omega.{arith}
use native.Mathlib.Numerals.{add-one}
use mathlib.Core.Path.{◌≡◌, refl, sym, ◌∙◌}
use mathlib.Core.Bool.{Bool, true, false, cond}
use mathlib.Core.List.{List, [], ◌∷◌}
use lib.ListN.{length, get_or, take, drop, set, length-take, length-drop, length-set}
use lib.Seq.{take_all, take-suc-set, take-suc, get_or-take, get_or-drop}
use lib.Dec.{eqb}
use Rattle.table.specs.declared.Span.{Span}
use Rattle.std.specs.declared.option.Option as rust
use Rattle.std.specs.declared.option.Option.TheVariants.{Some, None}
use Rattle.table.specs.Table.{Table}
use Rattle.table.specs.Layout.{most_parts}
use Rattle.table.specs.Lookup.{items_of}
use Rattle.table.specs.Spans.{within}
use Rattle.table.specs.Part.{ItemsFound}
use Rattle.decomposition.specs.declared.Replacement.{Replacement}
use Rattle.decomposition.specs.declared.Replacement.TheVariants.{Itself, Jamo}
use Rattle.decomposition.specs.declared.Replacement.TheVariants as by
use Rattle.text.specs.Hangul.{syllable_count, is_syllable, jamo_of}
use Rattle.text.specs.Decomposition.{single}
use Rattle.decomposition.specs.Rounds.{items_by, ByFits, or_itself, ReplacedBy, PartsAre}
use Rattle.text.proofs.Syllables.{syllable}
use Rattle.decomposition.proofs.RoundLaws.{single_syllable, single_items, single_itself}

-- the jamo of a syllable, by their places
abbrev two : ℕ → List ℕ
two s = (0x1100 + s / 588) ∷ (0x1161 + s % 588 / 28) ∷ []

abbrev three : ℕ → List ℕ
three s = (0x1100 + s / 588) ∷ (0x1161 + s % 588 / 28) ∷ (0x11A7 + s % 28) ∷ []

module _ (s : ℕ) where
  jamo_some : (c : ℕ) → or_itself c (jamo_of s) ≡ jamo_of s
  jamo_some c = go (eqb (s % 28) 0)
    where
      go : (b : Bool) → or_itself c (cond b (two s) (three s)) ≡ cond b (two s) (three s)
      go true = refl
      go false = refl

  jamo_few : length (jamo_of s) ≤ 4
  jamo_few = go (eqb (s % 28) 0)
    where
      go : (b : Bool) → length (cond b (two s) (three s)) ≤ 4
      go true = omega arith
      go false = omega arith

-- a list that is put in the place of c
or_some : (c : ℕ) (xs : List ℕ) → 1 ≤ length xs → or_itself c xs ≡ xs
or_some c [] h = absurd (omega arith)
or_some c (x ∷ xs) h = refl

or_none : (c : ℕ) (xs : List ℕ) → length xs ≡ 0 → or_itself c xs ≡ c ∷ []
or_none c [] h = refl
or_none c (x ∷ xs) h = absurd (omega arith)

-- the three cases of a single replacement
module _ (t : Table) (ws : List ℕ) (c : ℕ) where
  pub by_jamo : is_syllable c ≡ true → ReplacedBy t ws c (Jamo (c - 0xAC00))
  by_jamo e =
      let s = syllable c e in
      record {
        is = jamo_some (c - 0xAC00) c ∙ single_syllable t c e;
        few = jamo_few (c - 0xAC00);
        fits = omega (arith, s.low, s.high);
      }

  module _ (e : is_syllable c ≡ false) (i : rust.Option Span) (d : ItemsFound ws most_parts (items_of t.decompositions c) i) where
    pub by_items : (s : Span) → i ≡ Some s → ReplacedBy t ws c (by.Items s)
    by_items s k =
        let f : ItemsFound ws most_parts (items_of t.decompositions c) (Some s) = rw k at d in
        let long : length (within s ws) ≡ s.to - s.from = simp (length-take, length-drop) (omega (arith, f.fit.0, f.fit.1)) in
        record {
          is = or_some c (within s ws) (omega (arith, f.filled)) ∙ single_items t c (within s ws) e (sym f.same);
          few = omega (arith, f.fit.2);
          fits = record { ordered = f.fit.0; inside = f.fit.1 };
        }

    pub by_itself : i ≡ None → ReplacedBy t ws c Itself
    by_itself k =
        let f : ItemsFound ws most_parts (items_of t.decompositions c) None = rw k at d in
        record { is = single_itself t c e (sym f.same); few = omega arith; fits = tt }

-- the one at i, by the case
module _ (ws : List ℕ) (r : Replacement) (i : ℕ) (p : ByFits ws r × (i < length (items_by ws r))) where
  module _ (s : Span) (e : r ≡ by.Items s) where
    here : ByFits ws (by.Items s) × (i < length (within s ws))
    here = rw e at p

    below : i < s.to - s.from
    unfolding here
    below = let h : i < length (within s ws) = here.1 in omega (arith, rw length-take at h)

    pub items_in : s.from + i < length ws
    unfolding here
    items_in = omega (arith, below, here.0.inside)

    pub items_at : get_or ws (s.from + i) 0 ≡ get_or (items_by ws r) i 0
    items_at = sym (rw (e, get_or-take (s.to - s.from) (drop s.from ws) i 0 below) (get_or-drop s.from ws i 0))

  module _ (s : ℕ) (e : r ≡ Jamo s) where
    pub jamo_in : (s < syllable_count) × (i < length (jamo_of s))
    jamo_in = rw e at p

    pub jamo_is : (x : ℕ) → x ≡ get_or (jamo_of s) i 0 → x ≡ get_or (items_by ws r) i 0
    jamo_is x h = rw e h

-- how many there are, by the case
module _ (ws : List ℕ) (r : Replacement) where
  pub items_ordered : (s : Span) → r ≡ by.Items s → ByFits ws r → s.from ≤ s.to
  items_ordered s e p = let f : ByFits ws (by.Items s) = rw e at p in f.ordered

  pub items_count : (s : Span) → r ≡ by.Items s → ByFits ws r → s.to - s.from ≡ length (items_by ws r)
  items_count s e p =
      let f : ByFits ws (by.Items s) = rw e at p in
      rw e (simp (length-take, length-drop) (omega (arith, f.ordered, f.inside)))

  pub jamo_number : (s : ℕ) → r ≡ Jamo s → (n : ℕ) → n ≡ length (jamo_of s) → n ≡ length (items_by ws r)
  jamo_number s e n h = rw e h

-- what is put, by its number
module _ (t : Table) (ws : List ℕ) (c : ℕ) (r : Replacement) (d : ReplacedBy t ws c r) (n : ℕ) (e : n ≡ length (items_by ws r)) where
  pub by_none : n ≡ 0 → single t c ≡ c ∷ []
  by_none z = sym d.is ∙ or_none c (items_by ws r) (sym e ∙ z)

  pub by_some : (n ≡ 0 → ⊥) → items_by ws r ≡ single t c
  by_some z = sym (or_some c (items_by ws r) (omega arith)) ∙ d.is

  pub by_all : (i : ℕ) → n ≤ i → (n ≡ 0 → ⊥) → take i (items_by ws r) ≡ single t c
  by_all i h z = take_all i (items_by ws r) (omega arith) ∙ by_some z

-- the loop that copies what is put: the first i stand in front
pub record Copying (xs items : List ℕ) (i : ℕ) : Type 0 where
  pub inside : i ≤ length xs
  pub whole : length items ≡ 4
  pub is : take i items ≡ take i xs

pub copy_start : (xs : List ℕ) → Copying xs (0 ∷ 0 ∷ 0 ∷ 0 ∷ []) 0
copy_start xs = record { inside = omega arith; whole = refl; is = refl }

pub copy_more : (xs items : List ℕ) (i : ℕ) → Copying xs items i → i < length xs → length xs ≤ 4 → (x : ℕ) → x ≡ get_or xs i 0
    → Copying xs (set items i x) (i + 1)
copy_more xs items i p h few x e =
    record {
      inside = omega arith;
      whole = simp length-set p.whole;
      is = rw (add-one i, e, take-suc-set items i (get_or xs i 0) (omega (arith, p.whole)), take-suc xs i 0 h, p.is);
    }

-- all of them are copied
pub copied : (t : Table) (ws : List ℕ) (c : ℕ) (r : Replacement) (n : ℕ) (items : List ℕ) (i : ℕ) → ReplacedBy t ws c r → n ≡ length (items_by ws r)
    → (n ≡ 0 → ⊥) → Copying (items_by ws r) items i → n ≤ i → PartsAre (single t c) (record { count = n; items = items })
copied t ws c r n items i d e z p h =
    let k : i ≡ n = omega (arith, p.inside) in
    record {
      is = rw k at (p.is ∙ by_all t ws c r d n e i h z);
      few = omega (arith, d.few);
      whole = p.whole;
    }
