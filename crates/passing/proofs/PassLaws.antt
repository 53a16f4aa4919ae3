-- Laws of the test of one codepoint: it is decomposed, put in order and composed.
use Prim.Native.Nat.{ℕ, ◌+◌, ◌≤◌}
use native.Mathlib.Omega.{arith}
use mathlib.Core.Path.{◌≡◌, refl, sym, ap, ◌∙◌}
use mathlib.Core.Bool.{Bool, true, false, not, ◌&&◌}
use mathlib.Core.List.{List, [], ◌∷◌}
use lib.ListN.{length, get_or, take, drop, replicate, length-replicate}
use lib.Seq.{sets-eq, take_at, length-sets, length-take-le}
use lib.Dec.{eqb}
use Rattle.lists.specs.Lists.{same_list}
use Rattle.table.specs.Table.{Table}
use Rattle.table.specs.Lookup.{in_quick_check}
use Rattle.text.specs.Decomposition.{four_rounds}
use Rattle.text.specs.Ordering.{order, nfd}
use Rattle.text.specs.Composition.{first_item, compose, nfc}
use Rattle.text.specs.QuickCheck.{is_second}
use Rattle.text_laws.specs.Parsed.{Shaped}
use Rattle.text_laws.specs.Rounds.{rounds-longer}
use Rattle.decomposition.specs.Rounds.{Decomposed}
use Rattle.composition.specs.Work.{ComposedInto}
use Rattle.unpaired.specs.Unpaired.{Unpaired, Asked}
use Rattle.soundness.specs.QuickCheck.{passes8}
use Rattle.rule_7.proofs.PairLaws.{differ_length}
use Rattle.passing.specs.Passing.{composes_to}

first-at : (s : List ℕ) → first_item s ≡ get_or s 0 0
first-at [] = refl
first-at (a ∷ s) = refl

-- the text d, put in order, is o
module _ (t : Table) (d o : List ℕ) (is : o ≡ order t d) (c : ℕ) (set : List ℕ) (u : Unpaired t set) where
  pub starts_second : true ≡ is_second t (get_or o 0 0) → Asked t set (composes_to t d c) false
  unfolding composes_to
  starts_second e = record { is = rw (← is, first-at o, ← e); unpaired = u }

  module _ (s : false ≡ is_second t (get_or o 0 0)) (text : List ℕ) (left : ℕ) (w : ComposedInto t o text left) where
    pub composed_long : (left ≡ 1 → ⊥) → Asked t set (composes_to t d c) false
    unfolding composes_to
    composed_long n =
        record {
          is = rw (← is) (and_differs (not (is_second t (first_item o))) (differ_length (compose t o) (c ∷ []) (λ e. n (w.count ∙ e))));
          unpaired = u;
        }
      where
        and_differs : (a : Bool) {b : Bool} → false ≡ b → false ≡ a && b
        and_differs true e = e
        and_differs false e = refl

    pub composed-one : left ≡ 1 → Asked t set (composes_to t d c) (eqb (get_or text 0 0) c)
    unfolding composes_to
    composed-one e = record { is = rw (← is, first-at o, ← s, ← w.front, e) (one text (omega (arith, w.room, w.same))); unpaired = u }
      where
        one : (s : List ℕ) → 1 ≤ length s → eqb (get_or s 0 0) c ≡ same_list (take 1 s) (c ∷ [])
        one [] h = absurd (omega arith)
        one (x ∷ s) h = both_true (eqb x c)
          where
            both_true : (a : Bool) → a ≡ a && true
            both_true true = refl
            both_true false = refl

-- the four rounds of c, written into a buffer of 256
module _ (t : Table) (c : ℕ) (out : List ℕ) (n : ℕ) (w : Decomposed t c (replicate {A = ℕ} 256 0) out 0 n) where
  -- they stand at its front
  rounds_front : take n out ≡ four_rounds t (c ∷ [])
  rounds_front =
      let d = four_rounds t (c ∷ []) in
      let l : length d ≡ n = omega (arith, w.written.end) in
      let room : length {A = ℕ} (replicate 256 0) ≡ 256 = length-replicate {A = ℕ} 256 0 in
      rw (w.written.put, sets-eq d (replicate {A = ℕ} 256 0) 0 (omega (arith, w.few, room))) (take_at d (drop (0 + length d) (replicate {A = ℕ} 256 0)) n l)

  -- there is room for them, and for as many classes
  pub rounds_long : n ≡ length (take n out)
  rounds_long =
      let same : length out ≡ length {A = ℕ} (replicate 256 0) = ap length w.written.put ∙ length-sets (replicate 256 0) 0 (four_rounds t (c ∷ [])) in
      sym (length-take-le n out (omega (arith, w.few, same, length-replicate {A = ℕ} 256 0)))

  pub classes_long : n ≡ length (take {A = ℕ} n (replicate 256 0))
  classes_long = sym (length-take-le n (replicate 256 0) (omega (arith, w.few, length-replicate {A = ℕ} 256 0)))

  pub rounds-some : Shaped t → 1 ≤ length (take n out)
  rounds-some fit = rw rounds_front (rounds-longer t fit (c ∷ []))

  pub passes-composed : (set : List ℕ) (r : Bool) → in_quick_check t c ≡ false → Asked t set (composes_to t (take n out) c) r → Asked t set (passes8 t c) r
  unfolding composes_to passes8 nfd nfc
  passes-composed set r e a =
      record {
        is = rw rounds_front at a.is ∙ rw e (turn (not (is_second t (first_item (nfd t (c ∷ []))))) (same_list (nfc t (c ∷ [])) (c ∷ [])));
        unpaired = a.unpaired;
      }
    where
      turn : (a b : Bool) → a && b ≡ b && a
      turn true true = refl
      turn true false = refl
      turn false true = refl
      turn false false = refl

pub passes_held : (t : Table) (c : ℕ) (set : List ℕ) → Unpaired t set → in_quick_check t c ≡ true → Asked t set (passes8 t c) true
unfolding passes8
passes_held t c set u e = record { is = rw e; unpaired = u }
