-- Laws of filters.
use Prim.Native.Nat.{ℕ, ◌+◌, ◌≤◌, ◌<◌}
use native.Mathlib.Omega.{arith}
use mathlib.Core.Path.{◌≡◌, refl, sym, ap, ◌∙◌}
use mathlib.Core.Bool.{Bool, true, false, ◌&&◌, ◌||◌}
use mathlib.Core.List.{List, ◌++◌}
use lib.ListN.{length, get_or, drop, get_or-append, length-append, length-drop}
use lib.Seq.{drop_at, drop-drop, get_or-drop}
use lib.Dec.{leb, eqb}
use borrow.Author.Tests.{eq-eqb, leb-true, leb-false}
use Rattle.lists.specs.Laws.{both_left, both_right}
use Rattle.lists.specs.Tests.{never, not_so}
use Rattle.bit_sets.specs.Sets.{has, Put}
use Rattle.halving.specs.Halving.{FirstCovers}
use Rattle.quick_filters.specs.Filter.{filter_words, place_of, strewn_of, last_of, holds, Grown, Noted, RunNoted}

or_right : (a b : Bool) → b ≡ true → (a || b) ≡ true
or_right true b e = refl
or_right false b e = e

all_three : (a b c : Bool) → a ≡ true → b ≡ true → c ≡ true → (a && b && c) ≡ true
all_three a b c p q r = rw (p, q, r)

-- a place that is put into a set, and those that were in it
module _ (old new : List ℕ) (d : ℕ) (room : length old ≡ filter_words) (p : Put old new (λ e. eqb e d)) where
  put_room : length new ≡ filter_words
  put_room = p.room ∙ room

  put_keeps : (x : ℕ) → x < 32768 → has old x ≡ true → has new x ≡ true
  put_keeps x s h = p.each x (omega arith) ∙ or_right (eqb x d) (has old x) h

  put_here : d < 32768 → has new d ≡ true
  put_here s = p.each d (omega arith) ∙ rw (eq-eqb d d refl)

-- the three bits
place_small : (c : ℕ) → place_of c < 32768
place_small c = omega arith

strewn_small : (c : ℕ) → strewn_of c < 32768
strewn_small c = omega arith

last_small : (c : ℕ) → last_of c < 32768
last_small c = omega arith

module _ (old a b new : List ℕ) (c : ℕ) (room : length old ≡ filter_words) (p : Put old a (λ e. eqb e (place_of c))) (q : Put a b (λ e. eqb e (strewn_of c))) (r : Put b new (λ e. eqb e (last_of c))) where
  room_a : length a ≡ filter_words
  room_a = put_room old a (place_of c) room p

  room_b : length b ≡ filter_words
  room_b = put_room a b (strewn_of c) room_a q

  -- what is in a set stays when the others are put into it
  from_b : (x : ℕ) → x < 32768 → has b x ≡ true → has new x ≡ true
  from_b = put_keeps b new (last_of c) room_b r

  from_a : (x : ℕ) → x < 32768 → has a x ≡ true → has new x ≡ true
  from_a x s h = from_b x s (put_keeps a b (strewn_of c) room_a q x s h)

  from_old : (x : ℕ) → x < 32768 → has old x ≡ true → has new x ≡ true
  from_old x s h = from_a x s (put_keeps old a (place_of c) room p x s h)

  pub put_noted : Noted old new c
  unfolding holds
  put_noted =
      record {
        grown = record {
          room = r.room ∙ q.room ∙ p.room;
          kept = λ x h.
              let one = has old (place_of x) in
              let two = has old (strewn_of x) in
              let three = has old (last_of x) in
              all_three (has new (place_of x)) (has new (strewn_of x)) (has new (last_of x)) (from_old (place_of x) (place_small x) (both_left one two (both_left (one && two) three h))) (from_old (strewn_of x) (strewn_small x) (both_right one two (both_left (one && two) three h))) (from_old (last_of x) (last_small x) (both_right (one && two) three h));
        };
        here = all_three (has new (place_of c)) (has new (strewn_of c)) (has new (last_of c)) (from_a (place_of c) (place_small c) (put_here old a (place_of c) room p (place_small c))) (from_b (strewn_of c) (strewn_small c) (put_here a b (strewn_of c) room_a q (strewn_small c))) (put_here b new (last_of c) room_b r (last_small c));
      }

-- what the bits say, asked in turn
module _ (set : List ℕ) (c : ℕ) (x : Bool) (p : x ≡ has set (place_of c)) where
  pub held_not : x ≡ false → false ≡ holds set c
  unfolding holds
  held_not e = rw (← p, e)

  module _ (y : Bool) (q : y ≡ has set (strewn_of c)) (i : x ≡ true) where
    pub held_neither : y ≡ false → false ≡ holds set c
    unfolding holds
    held_neither e = rw (← p, i, ← q, e)

    pub held_last : (z : Bool) → y ≡ true → z ≡ has set (last_of c) → z ≡ holds set c
    unfolding holds
    held_last z j r = rw (← p, i, ← q, j, ← r)

pub grown_none : (old : List ℕ) → Grown old old
grown_none old = record { room = refl; kept = λ x h. h }

pub grown_on : (a b c : List ℕ) → Grown a b → Grown b c → Grown a c
grown_on a b c g h = record { room = h.room ∙ g.room; kept = λ x e. h.kept x (g.kept x e) }

-- what is not in a filter was not in it before
pub was_clear : (old new : List ℕ) (c : ℕ) → Grown old new → holds new c ≡ false → holds old c ≡ false
was_clear old new c g e = not_so (holds old c) (λ h. never (holds new c) (g.kept c h) e)

-- a run that has come to c
pub record Running (old cur : List ℕ) (from c : ℕ) : Type 0 where
  pub grown : Grown old cur
  pub each : (x : ℕ) → from ≤ x → x < c → holds cur x ≡ true

module _ (old cur new : List ℕ) (from c : ℕ) (w : Running old cur from c) (p : Noted cur new c) where
  pub run_on : Running old new from (c + 1)
  run_on = record { grown = grown_on old cur new w.grown p.grown; each = λ x h i. go x h (leb c x) refl i }
    where
      go : (x : ℕ) → from ≤ x → (b : Bool) → leb c x ≡ b → x < c + 1 → holds new x ≡ true
      go x h true e i = let k : c ≤ x = leb-true c x e in let s : x ≡ c = omega arith in rw s p.here
      go x h false e i = p.grown.kept x (w.each x h (leb-false c x e))

pub run_start : (old : List ℕ) (from : ℕ) → Running old old from from
run_start old from = record { grown = grown_none old; each = λ x h i. absurd (omega arith) }

pub run-stop : (old cur new : List ℕ) (from c to : ℕ) → Running old cur from c → to ≤ c → Noted cur new to → RunNoted old new from to
run-stop old cur new from c to w h p = record { grown = grown_on old cur new w.grown p.grown; each = λ x i j. go x i j (leb to x) refl }
  where
    go : (x : ℕ) → from ≤ x → x ≤ to → (b : Bool) → leb to x ≡ b → holds new x ≡ true
    go x i j true e = let k : to ≤ x = leb-true to x e in let s : x ≡ to = omega arith in rw s p.here
    go x i j false e = let k : x < to = leb-false to x e in p.grown.kept x (w.each x i (omega arith))

-- the walk over the entries of a part, up to i
pub record Noting (step last : ℕ) (ws old cur : List ℕ) (i : ℕ) : Type 0 where
  pub inside : i ≤ length ws
  pub grown : Grown old cur
  pub same : (c : ℕ) (f : List ℕ → Bool) (z : Bool) (found : List ℕ → ℕ → Bool) → FirstCovers step last c f z found → holds cur c ≡ false → f ws ≡ f (drop i ws)

module _ (step last : ℕ) (ws old : List ℕ) where
  module _ (cur : List ℕ) (i : ℕ) (n : Noting step last ws old cur i) where
    pub noting_on : (new : List ℕ) → i + step ≤ length ws → RunNoted cur new (get_or ws i 0) (get_or ws (i + last) 0) → Noting step last ws old new (i + step)
    noting_on new h p =
        record {
          inside = h;
          grown = grown_on old cur new n.grown p.grown;
          same = λ c f z found w e. n.same c f z found w (was_clear cur new c p.grown e) ∙ w.miss ws i h (λ a b. never (holds new c) (p.each c a b) e);
        }

-- the walk by chunks: `rest` is what is left of the words, from the place that the walk has come to
pub record Chunked (step last : ℕ) (ws old cur rest : List ℕ) (size : ℕ) : Type 0 where
  pub at : ℕ
  pub noting : Noting step last ws old cur at
  pub left : rest ≡ drop at ws
  pub sized : size ≡ step

module _ (step last : ℕ) (ws old cur rest : List ℕ) (size : ℕ) (w : Chunked step last ws old cur rest size) where
  pub chunked_on : (x rest' : List ℕ) (size' : ℕ) → rest ≡ x ++ rest' → length x ≡ size → size' ≡ size → last < step → (new : List ℕ)
      → RunNoted cur new (get_or x 0 0) (get_or x last 0) → Chunked step last ws old new rest' size'
  chunked_on x rest' size' cut long z few new p =
      let here : drop w.at ws ≡ x ++ rest' = sym w.left ∙ cut in
      let full : length x ≡ step = long ∙ w.sized in
      let room : w.at + step ≤ length ws = omega (arith, length-drop w.at ws, ap (λ (l : List ℕ). length l) here, length-append x rest', full, few) in
      let word : (k : ℕ) → k < length x → get_or x k 0 ≡ get_or ws (w.at + k) 0 =
      λ k h. sym (get_or-append x rest' 0 k h) ∙ ap (λ (l : List ℕ). get_or l k 0) (sym here) ∙ get_or-drop w.at ws k 0 in
      let zero : w.at + 0 ≡ w.at = omega arith in
      let first : get_or x 0 0 ≡ get_or ws w.at 0 = word 0 (omega (arith, full, few)) ∙ ap (λ (n : ℕ). get_or ws n 0) zero in
      let end : get_or x last 0 ≡ get_or ws (w.at + last) 0 = word last (omega (arith, full, few)) in
      record {
        at = w.at + step;
        noting = noting_on step last ws old cur w.at w.noting new room (rw (first, end) at p);
        left = sym (drop_at x rest' step full) ∙ ap (λ (l : List ℕ). drop step l) (sym here) ∙ drop-drop step w.at ws;
        sized = z ∙ w.sized;
      }
