-- Walks over entries of two or three words, four of them at a time.
use Prim.Native.Nat.{ℕ, suc, ◌+◌, ◌-◌, ◌*◌, ◌/◌, ◌<◌, ◌≤◌}
use native.Mathlib.Numerals.{add-one}
use native.Mathlib.Nat.{suc-mul, div-mul-le_self}
use native.Mathlib.Omega.{arith}
use Rattle.std.proofs.Common.{mul-le-mul_right}
use mathlib.Core.Path.{◌≡◌, refl, sym, ◌∙◌}
use mathlib.Core.Bool.{Bool, true, false, ◌&&◌, ◌||◌}
use mathlib.Core.List.{List}
use lib.ListN.{length, get_or, take, drop, length-drop}
use lib.Seq.{take_all}
use lib.Dec.{leb}
use Rattle.std.specs.Borrow.{Bor}
use Rattle.std.specs.declared.option.Option as std
use Rattle.table.specs.Part.{in_pairs, class_among, in_four, Passed, EntryFound}
use Rattle.table.proofs.Lookups.{false_true, Walk, pairs_on, class_on}

-- none of two
or_left : (a b : Bool) → false ≡ (a || b) → false ≡ a
or_left true b e = e
or_left false b e = refl

or_right : (a b : Bool) → false ≡ (a || b) → false ≡ b
or_right true b e = absurd (false_true e)
or_right false b e = e

-- c lies in the pair at j
abbrev at : ℕ → List ℕ → ℕ → Bool
at c ws j = leb (get_or ws j 0) c && leb c (get_or ws (j + 1) 0)

-- none of four
module _ (c : ℕ) (ws : List ℕ) (i step : ℕ) (e : false ≡ in_four c ws i step) where
  abbrev front : Bool
  front = at c ws i || at c ws (i + step)

  abbrev back : Bool
  back = at c ws (i + step + step) || at c ws (i + step + step + step)

  first : false ≡ at c ws i
  first = or_left (at c ws i) (at c ws (i + step)) (or_left front back e)

  second : false ≡ at c ws (i + step)
  second = or_right (at c ws i) (at c ws (i + step)) (or_left front back e)

  third : false ≡ at c ws (i + step + step)
  third = or_left (at c ws (i + step + step)) (at c ws (i + step + step + step)) (or_right front back e)

  fourth : false ≡ at c ws (i + step + step + step)
  fourth = or_right (at c ws (i + step + step)) (at c ws (i + step + step + step)) (or_right front back e)

pairs_skip : (c : ℕ) (ws : List ℕ) (i : ℕ) → Walk (in_pairs c) ws i → 7 < length ws - i → false ≡ in_four c ws i 2 → Walk (in_pairs c) ws (i + 8)
pairs_skip c ws i w h e =
    let a = pairs_on c ws i w (omega arith) (first c ws i 2 e) in
    let b = pairs_on c ws (i + 2) a (omega arith) (second c ws i 2 e) in
    let d = pairs_on c ws (i + 2 + 2) b (omega arith) (third c ws i 2 e) in
    let f = pairs_on c ws (i + 2 + 2 + 2) d (omega arith) (fourth c ws i 2 e) in
    let n : i + 2 + 2 + 2 + 2 ≡ i + 8 = omega arith in
    rw n at f

triples_skip : (c : ℕ) (ws : List ℕ) (i : ℕ) → Walk (class_among c) ws i → 11 < length ws - i → false ≡ in_four c ws i 3
    → Walk (class_among c) ws (i + 12)
triples_skip c ws i w h e =
    let a = class_on c ws i w (omega arith) (first c ws i 3 e) in
    let b = class_on c ws (i + 3) a (omega arith) (second c ws i 3 e) in
    let d = class_on c ws (i + 3 + 3) b (omega arith) (third c ws i 3 e) in
    let f = class_on c ws (i + 3 + 3 + 3) d (omega arith) (fourth c ws i 3 e) in
    let n : i + 3 + 3 + 3 + 3 ≡ i + 12 = omega arith in
    rw n at f

-- a whole entry lies within the words
entry_fits : (n step k : ℕ) → k < n / step → k * step + step ≤ n
entry_fits n step k h =
    let up : suc k * step ≤ n / step * step = mul-le-mul_right step (omega arith) in
    omega (arith, div-mul-le_self n step, suc-mul k step)

-- four entries more are passed
pub passed_on : (step c : ℕ) (ws : List ℕ) (i : ℕ) → Passed step c ws i → i + 4 * step ≤ length ws → false ≡ in_four c ws i step → Passed step c ws (i + 4 * step)
passed_on step c ws i w h e =
    record {
      inside = h;
      pairs = λ s.
          let n : i + 4 * step ≡ i + 8 = omega arith in
          let four : false ≡ in_four c ws i 2 = rw s at e in
          rw n (pairs_skip c ws i (record { inside = w.inside; same = w.pairs s }) (omega arith) four).same;
      triples = λ s.
          let n : i + 4 * step ≡ i + 12 = omega arith in
          let four : false ≡ in_four c ws i 3 = rw s at e in
          rw n (triples_skip c ws i (record { inside = w.inside; same = w.triples s }) (omega arith) four).same;
    }

-- what is found behind those passed is found in all
pub found_behind : (step c : ℕ) (ws : List ℕ) (i : ℕ) (r : std.Option (Bor (List ℕ))) → Passed step c ws i → EntryFound step c (take (length ws - i) (drop i ws)) r → EntryFound step c ws r
found_behind step c ws i r w f =
    let all : take (length ws - i) (drop i ws) ≡ drop i ws = take_all (length ws - i) (drop i ws) (simp length-drop (omega arith)) in
    let g : EntryFound step c (drop i ws) r = rw all at f in
    record { size = g.size; pairs = λ s. g.pairs s ∙ sym (w.pairs s); triples = λ s. g.triples s ∙ sym (w.triples s) }

-- the same, counted by fours
pub fours_on : (step c : ℕ) (ws : List ℕ) (i : ℕ) → Passed step c ws (i * (4 * step)) → i < length ws / (4 * step) → false ≡ in_four c ws (i * (4 * step)) step
    → Passed step c ws ((i + 1) * (4 * step))
fours_on step c ws i w h e =
    let next : (i + 1) * (4 * step) ≡ i * (4 * step) + 4 * step = rw add-one (suc-mul i (4 * step)) in
    rw next (passed_on step c ws (i * (4 * step)) w (entry_fits (length ws) (4 * step) i h) e)
