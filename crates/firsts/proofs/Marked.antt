-- Marks stand at records, with their numbers: at the start, and with one more that does.
use Prim.Native.Nat.{ℕ, ◌+◌, ◌≤◌, ◌<◌}
use native.Mathlib.Omega.{arith}
use mathlib.Core.Path.{◌≡◌, refl, sym, ◌∙◌, ap}
use mathlib.Core.Bool.{Bool, true, false, not}
use mathlib.Core.List.{List, [], ◌∷◌, ◌++◌, append_assoc}
use mathlib.Core.Option.{Option, none, some}
use lib.ListN.{length, get_or, length-append}
use borrow.Author.Tests.{le-leb}
use Rattle.lists.specs.Lists.{is_some}
use Rattle.table.specs.Layout.{sequences}
use Rattle.table.specs.Part.{records_in, SequenceHere}
use Rattle.table.proofs.Lookups.{false_true}
use Rattle.table.proofs.Records.{records_start, sequences_step}
use Rattle.place_marks.specs.declared.Marks.{Marks}
use Rattle.place_marks.specs.Places.{no_marks, most_place, with_mark}
use Rattle.firsts.specs.Firsts.{sequences_in, steady, FirstsSteady, Avoids, SequencesFrom, Numbered, FourNumbered, MarksNumbered, FirstsKnown, Passing}
use Rattle.firsts.proofs.Steady.{first_item, steady-first, steady-behind, avoid_before, avoid_more}

-- the sequences of a section that is well formed
pub sequences_are : (ws : List ℕ) → is_some (sequences (length ws) ws) ≡ true → sequences (length ws) ws ≡ some (sequences_in ws)
unfolding records_in
sequences_are ws h = go (sequences (length ws) ws) refl h
  where
    go : (o : Option (List (List ℕ))) → sequences (length ws) ws ≡ o → is_some o ≡ true → sequences (length ws) ws ≡ some (sequences_in ws)
    go none e j = absurd (false_true j)
    go (some ss) e j = rw e

-- the start
unfoldable pub from_start : (ws : List ℕ) → is_some (sequences (length ws) ws) ≡ true → SequencesFrom ws 0 0
from_start ws h =
    record {
      passed = [];
      left = sequences_in ws;
      split = refl;
      count = refl;
      few = omega arith;
      walk = records_start sequences ws (sequences_in ws) (sequences_are ws h);
    }

-- behind the record here
module _ (ws : List ℕ) (at number : ℕ) (w : SequencesFrom ws at number) (h : at < length ws) where
  pub from_here_lem : SequenceHere ws at w.left
  from_here_lem = sequences_step ws at w.left w.walk h

  unfoldable pub from_more : SequencesFrom ws (at + 1 + get_or ws at 0) (number + 1)
  from_more =
      let x = from_here_lem in
      record {
        passed = w.passed ++ x.first ∷ [];
        left = x.rest;
        split = w.split ∙ ap (λ (l : List (List ℕ)). w.passed ++ l) x.split ∙ sym (append_assoc w.passed (x.first ∷ []) x.rest);
        count = rw (length-append, w.count) refl;
        few = omega (arith, w.few, x.low);
        walk = x.next;
      }

  -- the sequences, with the one here in their midst
  pub from_split : sequences_in ws ≡ w.passed ++ from_here_lem.first ∷ from_here_lem.rest
  from_split = w.split ∙ ap (λ (l : List (List ℕ)). w.passed ++ l) from_here_lem.split

-- marks that are not set, and one more
pub numbered_none : (ws : List ℕ) → SequencesFrom ws 0 0 → MarksNumbered ws no_marks no_marks
numbered_none ws w =
    let f : FourNumbered ws no_marks.a no_marks.a = record { p = λ i. w; q = λ i. w; r = λ i. w; s = λ i. w } in
    record { a = f; b = f }

pub numbered_more : (ws : List ℕ) (f g : Marks) (at number : ℕ) → MarksNumbered ws f g → SequencesFrom ws at number → at ≤ most_place
    → MarksNumbered ws (with_mark f at) (with_mark g number)
unfolding with_mark
numbered_more ws f g at number h w i =
    rw (le-leb at most_place i, le-leb number most_place (omega (arith, w.few)))
    (record { a = record { p = h.a.q; q = h.a.r; r = h.a.s; s = h.b.p }; b = record { p = h.b.q; q = h.b.r; r = h.b.s; s = λ j. w } })

-- what is known of a section that is sorted
pub known_steady : (ws : List ℕ) (sorted : Bool) (f g : Marks) → FirstsKnown ws sorted f g → not sorted ≡ false → FirstsSteady ws
known_steady ws true f g k h = k.firsts refl
known_steady ws false f g k h = absurd (false_true (sym h))

-- A search starts at the start, or at a mark whose first item is below e, or behind a record whose first item is.
pub passing_start : (ws : List ℕ) (e : ℕ) → is_some (sequences (length ws) ws) ≡ true → Passing ws e (record { place = 0; number = 0 })
unfolding Avoids from_start
passing_start ws e h = record { from = from_start ws h; avoids = tt }

pub passing_mark : (ws : List ℕ) (e at number : ℕ) → FirstsSteady ws → Numbered ws at number → at < length ws → get_or ws (at + 1) 0 < e
    → Passing ws e (record { place = at; number = number })
passing_mark ws e at number s m h i =
    let w = m h in
    let x = from_here_lem ws at number w h in
    let up : steady 0 (w.passed ++ x.first ∷ x.rest) ≡ true = rw (from_split ws at number w h) at s in
    record { from = w; avoids = avoid_before 0 e w.passed x.first x.rest up (omega (arith, first_item ws at w.left x, i)) }

pub passing_more : (ws : List ℕ) (e at number : ℕ) → FirstsSteady ws → Passing ws e (record { place = at; number = number }) → at < length ws
    → get_or ws (at + 1) 0 < e → Passing ws e (record { place = at + 1 + get_or ws at 0; number = number + 1 })
unfolding from_more
passing_more ws e at number s p h i =
    let w = p.from in
    let x = from_here_lem ws at number w h in
    let up : steady 0 (w.passed ++ x.first ∷ x.rest) ≡ true = rw (from_split ws at number w h) at s in
    let f = steady-first 0 x.first x.rest (steady-behind w.passed (x.first ∷ x.rest) up) in
    record {
      from = from_more ws at number w h;
      avoids = avoid_more e w.passed x.first p.avoids (λ z. omega (arith, first_item ws at w.left x, i, z)) f.plain;
    }

-- the same of a record of n items
pub passing_run : (ws : List ℕ) (e at number n : ℕ) → FirstsSteady ws → Passing ws e (record { place = at; number = number }) → at < length ws → get_or ws at 0 ≡ n
    → get_or ws (at + 1) 0 < e → Passing ws e (record { place = at + (n + 1); number = number + 1 })
passing_run ws e at number n s p h count i =
    let same : at + 1 + get_or ws at 0 ≡ at + (n + 1) = omega arith in
    rw (← same) (passing_more ws e at number s p h i)
