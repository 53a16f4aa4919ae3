-- Laws of sequences stripped of FE0F.
use Prim.Native.Nat.{ℕ, ◌+◌, ◌<◌, ◌≤◌}
use native.Mathlib.Numerals.{add-one}
use native.Mathlib.Omega.{arith}
use mathlib.Core.Path.{◌≡◌, refl, sym, ◌∙◌, ap}
use mathlib.Core.Bool.{Bool, true, false, not, ◌&&◌, ◌||◌}
use mathlib.Core.List.{List, [], ◌∷◌, ◌++◌, append-nil}
use lib.ListN.{length, get_or, take, drop, drop_of_length-le, take-append-drop}
use lib.Seq.{take-suc}
use lib.Dec.{leb, eqb}
use borrow.Author.Tests.{eq-eqb, ne_eqb, leb-true, leb-false}
use Rattle.lists.specs.Lists.{all, any, same_list}
use Rattle.lists.specs.Elements.{keep_append}
use Rattle.lists.specs.Tests.{any-map}
use Rattle.table.proofs.Lookups.{drop-next}
use Rattle.table.specs.Table.{Table}
use Rattle.finder.specs.Emoji.{selector, strip}
use Rattle.soundness.specs.Sequences.{starts_with, two_selectors, stripped_emoji, rule4}
use Rattle.rule_4.specs.Strips.{plain_sequence, same_stripped, distinct_stripped, NextItem}

pub strip_append : (a b : List ℕ) → strip (a ++ b) ≡ strip a ++ strip b
unfolding strip
strip_append a b = keep_append (λ (c : ℕ). not (eqb c selector)) a b

pub strip-selector : (x : ℕ) (s : List ℕ) → x ≡ selector → strip (x ∷ s) ≡ strip s
unfolding strip
strip-selector x s e = rw (eq-eqb x selector e)

pub strip_item : (x : ℕ) (s : List ℕ) → eqb x selector ≡ false → strip (x ∷ s) ≡ x ∷ strip s
unfolding strip
strip_item x s e = rw e

-- fewer than two items
pub two_done : (ws : List ℕ) → length ws < 2 → false ≡ two_selectors ws
two_done [] h = refl
two_done (x ∷ []) h = one (eqb x selector)
  where
    one : (b : Bool) → false ≡ b && false || false
    one true = refl
    one false = refl
two_done (x ∷ y ∷ vs) h = absurd (omega arith)

-- The search for the next item that is not FE0F has come to r.
pub record Skipped (s : List ℕ) (i r : ℕ) : Type 0 where
  pub low : i ≤ r
  pub inside : r ≤ length s
  pub skipped : strip (take i s) ≡ strip (take r s)
  pub same : strip (drop i s) ≡ strip (drop r s)

module _ (s : List ℕ) (i : ℕ) where
  pub skip_start : i ≤ length s → Skipped s i i
  skip_start h = record { low = omega arith; inside = h; skipped = refl; same = refl }

  module _ (r : ℕ) (w : Skipped s i r) where
    pub skip_on : r < length s → get_or s r 0 ≡ selector → Skipped s i (r + 1)
    unfolding strip
    skip_on h e =
        let t : strip (take r s) ≡ strip (take (r + 1) s) = rw (add-one, take-suc s r 0 h, keep_append (λ (c : ℕ). not (eqb c selector)), eq-eqb (get_or s r 0) selector e) (sym (append-nil (strip (take r s)))) in
        let d : strip (drop r s) ≡ strip (drop (r + 1) s) = rw (drop-next s r h, eq-eqb (get_or s r 0) selector e) in
        record { low = omega arith; inside = omega arith; skipped = w.skipped ∙ t; same = w.same ∙ d }

    pub skip_found : r < length s → (get_or s r 0 ≡ selector → ⊥) → NextItem s i r
    skip_found h e =
        record {
          low = w.low;
          inside = w.inside;
          skipped = w.skipped;
          same = w.same;
          item = λ k. ne_eqb _ _ e;
        }

    pub skip_end : length s ≤ r → NextItem s i r
    skip_end h =
        record {
          low = w.low;
          inside = w.inside;
          skipped = w.skipped;
          same = w.same;
          item = λ k. absurd (omega arith);
        }

-- the items from a place on, where there is one that is not FE0F
pub strip_here : (s : List ℕ) (i : ℕ) → i < length s → eqb (get_or s i 0) selector ≡ false → strip (drop i s) ≡ get_or s i 0 ∷ strip (drop (i + 1) s)
strip_here s i h e = ap strip (drop-next s i h) ∙ strip_item (get_or s i 0) (drop (i + 1) s) e

pub strip-past : (s : List ℕ) (i : ℕ) → length s ≤ i → strip (drop i s) ≡ []
unfolding strip
strip-past s i h = rw (drop_of_length-le s h)

-- a start that two sequences share makes no difference
same_front : (p a b : List ℕ) → same_list (p ++ a) (p ++ b) ≡ same_list a b
same_front [] a b = refl
same_front (x ∷ p) a b = rw (eq-eqb x x refl) (same_front p a b)

pub stripped_behind : (a b : List ℕ) (k : ℕ) → take k a ≡ take k b → same_stripped a b ≡ same_stripped (drop k a) (drop k b)
unfolding same_stripped
stripped_behind a b k e =
    let parts : (s : List ℕ) → strip s ≡ strip (take k s) ++ strip (drop k s) = λ s. ap strip (sym (take-append-drop k s)) ∙ strip_append (take k s) (drop k s) in
    let q : strip b ≡ strip (take k a) ++ strip (drop k b) = parts b ∙ ap (λ (l : List ℕ). strip l ++ strip (drop k b)) (sym e) in
    rw (parts a, q) (same_front (strip (take k a)) (strip (drop k a)) (strip (drop k b)))

-- Two sequences compared item by item have come to i and j.
pub record Aligned (a b : List ℕ) (i j : ℕ) : Type 0 where
  pub same : same_stripped a b ≡ same_list (strip (drop i a)) (strip (drop j b))
  pub left_in : i ≤ length a
  pub right_in : j ≤ length b
  pub left_item : i < length a → eqb (get_or a i 0) selector ≡ false
  pub right_item : j < length b → eqb (get_or b j 0) selector ≡ false

module _ (a b : List ℕ) (i j : ℕ) where
  pub align_start : (k : ℕ) → take k a ≡ take k b → NextItem a k i → NextItem b k j → Aligned a b i j
  unfolding same_stripped
  align_start k e m n =
      let p : same_list (strip (drop k a)) (strip (drop k b)) ≡ same_list (strip (drop i a)) (strip (drop j b)) = rw (m.same, n.same) in
      record { same = stripped_behind a b k e ∙ p; left_in = m.inside; right_in = n.inside; left_item = m.item; right_item = n.item }

  module _ (w : Aligned a b i j) where
    pub align_short : i < length a → length b ≤ j → false ≡ same_stripped a b
    align_short h k = rw (w.same, strip_here a i h (w.left_item h), strip-past b j k)

    module _ (h : i < length a) (k : j < length b) where
      pub align_differ : (get_or a i 0 ≡ get_or b j 0 → ⊥) → false ≡ same_stripped a b
      align_differ e = rw (w.same, strip_here a i h (w.left_item h), strip_here b j k (w.right_item k), ne_eqb (get_or a i 0) (get_or b j 0) e)

      pub align_on : (m n : ℕ) → get_or a i 0 ≡ get_or b j 0 → NextItem a (i + 1) m → NextItem b (j + 1) n → Aligned a b m n
      align_on m n e f g =
          let p : same_list (strip (drop i a)) (strip (drop j b)) ≡ same_list (strip (drop m a)) (strip (drop n b))
          = rw (strip_here a i h (w.left_item h), strip_here b j k (w.right_item k), eq-eqb (get_or a i 0) (get_or b j 0) e, f.same, g.same) in
          record { same = w.same ∙ p; left_in = f.inside; right_in = g.inside; left_item = f.item; right_item = g.item }

    pub align_done : length a ≤ i → leb (length b) j ≡ same_stripped a b
    align_done h = go (leb (length b) j) refl
      where
        go : (t : Bool) → leb (length b) j ≡ t → t ≡ same_stripped a b
        go true e = rw (w.same, strip-past a i h, strip-past b j (leb-true _ _ e))
        go false e =
            let k : j < length b = leb-false _ _ e in
            rw (w.same, strip-past a i h, strip_here b j k (w.right_item k))

pub starts_first : (c : ℕ) (s : List ℕ) → 0 < length s → eqb c (get_or s 0 0) ≡ starts_with c s
starts_first c [] h = absurd (omega arith)
starts_first c (x ∷ s) h = refl

pub starts_none : (c : ℕ) (s : List ℕ) → length s ≤ 0 → false ≡ starts_with c s
starts_none c [] h = refl
starts_none c (x ∷ s) h = absurd (omega arith)

pub first-none : (s : List ℕ) → length s ≡ 0 → ◌≡◌ {A = ℕ} 0 (get_or s 0 0)
first-none [] h = refl
first-none (x ∷ s) h = absurd (omega arith)

-- no two are equal when stripped: the first is no later one, and the later ones are so
module _ (x : List ℕ) (xs : List (List ℕ)) where
  pub distinct_broken : any (same_stripped x) xs ≡ true → false ≡ distinct_stripped (x ∷ xs)
  unfolding same_stripped distinct_stripped
  distinct_broken e = rw (any-map (same_list (strip x)) strip xs ∙ e)

  pub distinct_later : any (same_stripped x) xs ≡ false → distinct_stripped (x ∷ xs) ≡ distinct_stripped xs
  unfolding same_stripped distinct_stripped
  distinct_later e = rw (any-map (same_list (strip x)) strip xs ∙ e)

pub distinct_none : true ≡ distinct_stripped []
unfolding distinct_stripped
distinct_none = refl

-- rule 4, of the sequences
pub rule4_parts : (t : Table) (ss : List (List ℕ)) → ss ≡ t.emoji → all plain_sequence ss && distinct_stripped ss ≡ rule4 t
unfolding rule4 stripped_emoji distinct_stripped
rule4_parts t ss e = rw e
