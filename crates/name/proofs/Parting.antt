-- The labels of a name by the places where they end, and the writing of a label behind the words before it.
use Prim.Native.Nat.{ℕ, suc, ◌+◌, ◌-◌, ◌<◌, ◌≤◌}
use native.Mathlib.Numerals.{add-one}
use native.Mathlib.Omega.{arith}
use mathlib.Core.Path.{◌≡◌, refl, sym, ap, ◌∙◌}
use mathlib.Core.Bool.{Bool, true, false, not, cond}
use mathlib.Core.List.{List, [], ◌∷◌, ◌++◌, append-nil, append_assoc}
use mathlib.Core.Option.{none, some}
use lib.ListN.{length, get_or, take, drop, set, length-append, length-drop, length-set, take-append-drop}
use lib.Seq.{take_all, take-suc, take-suc-set, get_or-drop, drop-drop, length-take-le, take-append_seam}
use lib.Dec.{eqb, leb}
use borrow.Author.Tests.{ne_eqb, le-leb, lt-leb, leb-true, leb-false, not-true}
use borrow.Rule.Slice.PartMut.{mid_of, put_mid}
use Rattle.lists.specs.Lists.{place_with, take_with, split}
use Rattle.lists.specs.Laws.{both_left, both_right, both}
use Rattle.lists.specs.Splits.{split-joined}
use Rattle.buffers.proofs.Parts.{mid_tail, put_tail}
use Rattle.table.proofs.Lookups.{drop-next}
use Rattle.name.specs.Label.{stop}
use Rattle.name.specs.Name.{labels_of}
use Rattle.name.specs.Parts.{label_at, no_stop, LabelEnds, parts_from, between, Put}

-- words without a stop are one part
split_last : (s : List ℕ) → no_stop s ≡ true → split stop s ≡ s ∷ []
unfolding split
split_last [] e = refl
split_last (c ∷ s) e =
    let other : eqb c stop ≡ false = not-true (eqb c stop) (both_left (not (eqb c stop)) (no_stop s) e) in
    rw (other, split_last s (both_right (not (eqb c stop)) (no_stop s) e))

-- a stop is found behind words without one
pub place_stop : (s r : List ℕ) (at : ℕ) → no_stop s ≡ true → place_with (λ c. eqb c stop) at (s ++ stop ∷ r) ≡ some (at + length s)
place_stop [] r at e = ap some (omega arith)
place_stop (c ∷ s) r at e =
    let other : eqb c stop ≡ false = not-true (eqb c stop) (both_left (not (eqb c stop)) (no_stop s) e) in
    rw other (place_stop s r (suc at) (both_right (not (eqb c stop)) (no_stop s) e) ∙ ap some (omega arith))

pub place_none : (s : List ℕ) (at : ℕ) → no_stop s ≡ true → place_with (λ c. eqb c stop) at s ≡ none
place_none [] at e = refl
place_none (c ∷ s) at e =
    let other : eqb c stop ≡ false = not-true (eqb c stop) (both_left (not (eqb c stop)) (no_stop s) e) in
    rw other (place_none s (suc at) (both_right (not (eqb c stop)) (no_stop s) e))

pub take-stop : (s r : List ℕ) → no_stop s ≡ true → take_with (λ c. not (eqb c stop)) (s ++ stop ∷ r) ≡ s
take-stop [] r e = refl
take-stop (c ∷ s) r e =
    let other : not (eqb c stop) ≡ true = both_left (not (eqb c stop)) (no_stop s) e in
    rw (other, take-stop s r (both_right (not (eqb c stop)) (no_stop s) e))

module _ (name : List ℕ) (at end : ℕ) (l : LabelEnds name at end) where
  pub label-length : length (label_at name at end) ≡ end - at
  label-length = length-take-le (end - at) (drop at name) (rw length-drop (omega (arith, l.to)))

  -- where there is a stop, it parts the label from what follows
  pub label-stop : end < length name → drop at name ≡ label_at name at end ++ stop ∷ drop (end + 1) name
  label-stop h =
      let sum : at + (end - at) ≡ end = omega (arith, l.from) in
      let rest : drop (end - at) (drop at name) ≡ stop ∷ drop (end + 1) name = rw (drop-drop, sum, drop-next name end h, l.stands h) in
      sym (take-append-drop (end - at) (drop at name)) ∙ rw rest

  pub label_last : length name ≤ end → label_at name at end ≡ drop at name
  label_last h = take_all (end - at) (drop at name) (rw length-drop (omega (arith, l.to)))

  -- the labels from `at` on are this one and those behind it
  pub parts_next : parts_from name at ≡ label_at name at end ∷ parts_from name (end + 1)
  unfolding parts_from
  parts_next = go (leb (end + 1) (length name)) refl
    where
      inside : leb at (length name) ≡ true
      inside = le-leb at (length name) (omega (arith, l.from, l.to))

      go : (b : Bool) → leb (end + 1) (length name) ≡ b → parts_from name at ≡ label_at name at end ∷ cond b (split stop (drop (end + 1) name)) []
      go true e =
          let h : end < length name = omega (arith, leb-true (end + 1) (length name) e) in
          let parts : split stop (drop at name) ≡ split stop (label_at name at end) ++ split stop (drop (end + 1) name) =
          ap (split stop) (label-stop h) ∙ split-joined stop (label_at name at end) (drop (end + 1) name) in
          rw (inside, parts, split_last (label_at name at end) l.none)
      go false e =
          let h : length name ≤ end = omega (arith, leb-false (end + 1) (length name) e) in
          let clear : no_stop (drop at name) ≡ true = rw (label_last h) at l.none in
          rw (inside, label_last h) (split_last (drop at name) clear)

-- all labels of a name, from its first place on
pub parts_all : (name : List ℕ) → 1 ≤ length name → labels_of name ≡ parts_from name 0
unfolding labels_of parts_from
parts_all [] h = absurd (let z : 1 ≤ 0 = h in omega arith)
parts_all (c ∷ name) h = rw (le-leb 0 (suc (length name)) (omega arith))

pub parts_empty : (name : List ℕ) → length name ≡ 0 → labels_of name ≡ parts_from name 1
unfolding labels_of parts_from
parts_empty [] h = refl
parts_empty (c ∷ name) h = absurd (omega arith)

pub parts_none : (name : List ℕ) (at : ℕ) → length name < at → parts_from name at ≡ []
unfolding parts_from
parts_none name at h = rw (lt-leb at (length name) h)

-- the writing of a stop, where there is room for it
module _ (before : List ℕ) (at : ℕ) (first : Bool) where
  pub put_first : first ≡ true → Put before before at first [] at
  put_first e = record { same = refl; ends = rw e (omega arith); written = λ h. rw (e, append-nil) }

  module _ (e : first ≡ false) where
    pub put_stop : at < length before → Put before (set before at stop) at first [] (at + 1)
    put_stop h =
        record {
          same = length-set before at stop;
          ends = rw e;
          written = λ k. rw (e, add-one) (take-suc-set before at stop h);
        }

    pub put_none : length before ≤ at → Put before before at first [] (at + 1)
    put_none h = record { same = refl; ends = rw e; written = λ k. absurd (omega arith) }

pub between_few : (first : Bool) (s : List ℕ) → length (between first ++ s) ≤ length s + 1
between_few true s = omega arith
between_few false s = omega arith

-- the writing of a label behind it
module _ (before mid : List ℕ) (at : ℕ) (first : Bool) (from : ℕ) (p : Put before mid at first [] from) where
  pub put_near : from ≤ at + 1
  put_near = omega (arith, p.ends, between_few first [])

  module _ (label : List ℕ) where
    ends : from + length label ≡ at + length (between first ++ label)
    ends = rw length-append (omega (arith, rw (append-nil (between first)) at p.ends))

    pub put_over : length mid < from + length label → Put before mid at first label (from + length label)
    put_over h = record { same = p.same; ends = ends; written = λ k. absurd (omega (arith, p.same)) }

    pub put_copied : (part : List ℕ) → from + length label ≤ length mid → part ≡ label ++ drop (length label) (mid_of from (length mid - from) mid)
        → Put before (put_mid from (length mid - from) mid part) at first label (from + length label)
    put_copied part h e =
        let front : length (take from mid) ≡ from = length-take-le from mid (omega arith) in
        let whole : put_mid from (length mid - from) mid part ≡ take from mid ++ (label ++ drop (length label) (drop from mid)) =
        put_tail from mid part ∙ ap (λ (x : List ℕ). take from mid ++ x) (e ∙ rw (mid_tail from mid)) in
        let sum : from + length label ≡ length (take from mid ++ label) = rw (length-append, front) in
        let taken : take (from + length label) (take from mid ++ (label ++ drop (length label) (drop from mid))) ≡ take from mid ++ label =
        rw (← append_assoc, sum) (take-append_seam (take from mid ++ label) (drop (length label) (drop from mid))) in
        record {
          same = ap length whole ∙ rw (length-append, length-append, front, length-drop, length-drop) (omega (arith, p.same));
          ends = ends;
          written = λ k.
              ap (λ (x : List ℕ). take (from + length label) x) whole ∙ taken
              ∙ rw (p.written (omega (arith, p.same)), append_assoc, append-nil) refl;
        }
