-- Laws of rule 5, for items with FE0F among them.
use Prim.Native.Nat.{ℕ, ◌+◌, ◌<◌, ◌≤◌}
use native.Mathlib.Numerals.{add-one}
use mathlib.Core.Path.{◌≡◌, sym, ◌∙◌, ap, refl}
use mathlib.Core.Bool.{Bool, true, false, not, ◌&&◌}
use mathlib.Core.List.{List, [], ◌∷◌, ◌++◌}
use lib.ListN.{length, get_or, take, drop}
use lib.Seq.{take-suc}
use lib.Dec.{eqb}
use Rattle.lists.specs.Lists.{all, any, same_list}
use Rattle.lists.specs.Tests.{any-map, all_map}
use Rattle.table.specs.Table.{Table}
use Rattle.table.specs.Lookup.{in_ranges}
use Rattle.table.specs.Layout.{sequences}
use Rattle.finder.specs.Emoji.{selector, strip}
use Rattle.soundness.specs.Sequences.{starts_with, stripped_emoji, is_stripped, one_valid, can_start, starts_apart, apart, rule5}
use Rattle.table.specs.Part.{records_in}
use Rattle.sound_parts.specs.Parts.{EmojiPart}
use Rattle.rule_4.specs.Strips.{same_stripped, NextItem}
use Rattle.rule_5.specs.Apart.{stands_alone, keeps_apart}
use Rattle.rule_4.proofs.StripLaws.{strip_append, strip_item, strip_here, strip-past}

-- the stripped items, by the first that is not FE0F
module _ (s : List ℕ) (i : ℕ) (m : NextItem s 0 i) where
  pub strip-none : length s ≤ i → strip s ≡ []
  strip-none h = let e : strip s ≡ strip (drop i s) = m.same in e ∙ strip-past s i h

  pub strip-first : i < length s → strip s ≡ get_or s i 0 ∷ strip (drop (i + 1) s)
  strip-first h = let e : strip s ≡ strip (drop i s) = m.same in e ∙ strip_here s i h (m.item h)

  module _ (h : i < length s) (j : ℕ) (n : NextItem s (i + 1) j) where
    pub strip-one : length s ≤ j → strip s ≡ get_or s i 0 ∷ []
    strip-one k = strip-first h ∙ ap (λ (l : List ℕ). get_or s i 0 ∷ l) (n.same ∙ strip-past s j k)

    pub strip-two : j < length s → strip s ≡ get_or s i 0 ∷ get_or s j 0 ∷ strip (drop (j + 1) s)
    strip-two k = strip-first h ∙ ap (λ (l : List ℕ). get_or s i 0 ∷ l) (n.same ∙ strip_here s j k (n.item k))

module _ (t : Table) (s : List ℕ) (i : ℕ) (m : NextItem s 0 i) where
  pub one_none : length s ≤ i → false ≡ one_valid t (strip s)
  one_none h = rw (strip-none s i m h)

  module _ (h : i < length s) (j : ℕ) (n : NextItem s (i + 1) j) where
    pub one_more : j < length s → false ≡ one_valid t (strip s)
    one_more k = rw (strip-two s i m h j n k)

    pub one_is : length s ≤ j → in_ranges (get_or s i 0) t.valid ≡ one_valid t (strip s)
    one_is k = rw (strip-one s i m h j n k)

-- the stripped start up to and with an item
strip-take : (s : List ℕ) (i : ℕ) → i < length s → eqb (get_or s i 0) selector ≡ false → strip (take (i + 1) s) ≡ strip (take i s) ++ get_or s i 0 ∷ []
unfolding strip
strip-take s i h e =
    let c : take (i + 1) s ≡ take i s ++ get_or s i 0 ∷ [] = rw add-one (take-suc s i 0 h) in
    let d : strip (get_or s i 0 ∷ []) ≡ get_or s i 0 ∷ [] = strip_item (get_or s i 0) [] e in
    ap strip c ∙ strip_append (take i s) (get_or s i 0 ∷ []) ∙ ap (λ (l : List ℕ). strip (take i s) ++ l) d

-- The proper starts that end before the item at i are asked; the rest is left.
pub record ApartWalk (t : Table) (s : List ℕ) (i : ℕ) : Type 0 where
  pub same : apart t (strip s) ≡ starts_apart t (strip (take i s)) (strip (drop i s))
  pub inside : i ≤ length s
  pub item : i < length s → eqb (get_or s i 0) selector ≡ false

module _ (t : Table) (s : List ℕ) where
  pub apart_none : (i : ℕ) → NextItem s 0 i → length s ≤ i → true ≡ apart t (strip s)
  unfolding apart
  apart_none i m h = rw (strip-none s i m h)

  pub apart_start : (f i : ℕ) → NextItem s 0 f → f < length s → NextItem s (f + 1) i → ApartWalk t s i
  unfolding apart strip
  apart_start f i m h n =
      let none_before : strip (take f s) ≡ [] = sym m.skipped in
      let p : strip (take i s) ≡ get_or s f 0 ∷ []
      = sym n.skipped ∙ strip-take s f h (m.item h) ∙ ap (λ (l : List ℕ). l ++ get_or s f 0 ∷ []) none_before in
      record { same = rw (strip-first s f m h, p, n.same); inside = n.inside; item = n.item }

  module _ (i : ℕ) (w : ApartWalk t s i) where
    module _ (h : i < length s) where
      pub apart_broken : stands_alone t (take i s) && can_start t (get_or s i 0) ≡ true → false ≡ apart t (strip s)
      unfolding starts_apart stands_alone
      apart_broken e = rw (w.same, strip_here s i h (w.item h), e)

      pub apart_on : (j : ℕ) → stands_alone t (take i s) && can_start t (get_or s i 0) ≡ false → NextItem s (i + 1) j → ApartWalk t s j
      unfolding starts_apart stands_alone
      apart_on j e n =
          let p : strip (take j s) ≡ strip (take i s) ++ get_or s i 0 ∷ [] = sym n.skipped ∙ strip-take s i h (w.item h) in
          let k : starts_apart t (strip (take i s)) (strip (drop i s)) ≡ starts_apart t (strip (take j s)) (strip (drop j s))
          = rw (strip_here s i h (w.item h), e, p, n.same) in
          record { same = w.same ∙ k; inside = n.inside; item = n.item }

    pub apart_done : length s ≤ i → true ≡ apart t (strip s)
    unfolding starts_apart
    apart_done h = rw (w.same, strip-past s i h)

-- the table's sequences, by the words that hold them
module _ (t : Table) (part : List ℕ) (p : EmojiPart t part) where
  pub stripped_is : (s : List ℕ) → any (same_stripped s) (records_in sequences part) ≡ is_stripped t (strip s)
  unfolding same_stripped stripped_emoji
  stripped_is s = rw p.are (sym (any-map (same_list (strip s)) strip t.emoji))

  pub first_is : (c : ℕ) → any (starts_with c) (records_in sequences part) ≡ any (starts_with c) t.emoji
  first_is c = rw p.are

  pub rule5_is : all (keeps_apart t) (records_in sequences part) ≡ rule5 t
  unfolding rule5 keeps_apart stripped_emoji
  rule5_is = rw p.are (sym (all_map (λ (s : List ℕ). not (one_valid t s) && apart t s) strip t.emoji))

-- the second of two tests decides
pub and_true : (a b : Bool) → b ≡ true → a ≡ a && b
and_true true b e = sym e
and_true false b e = refl

pub and_false : (a b : Bool) → b ≡ false → false ≡ a && b
and_false true b e = sym e
and_false false b e = refl
