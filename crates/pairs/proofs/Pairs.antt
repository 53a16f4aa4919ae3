-- Laws of finding a composition pair among the records of a section.
use Prim.Native.Nat.{ℕ, ◌+◌, ◌*◌, ◌/◌, ◌≤◌, ◌<◌}
use native.Mathlib.Omega.{arith}
use mathlib.Core.Path.{◌≡◌, refl, sym, ap, subst, ◌∙◌}
use mathlib.Core.Bool.{Bool, true, false, false≢true, ◌&&◌, cond}
use mathlib.Core.List.{List, [], ◌∷◌, ◌++◌}
use mathlib.Core.Option.{none, some, map}
use lib.ListN.{length, get_or, take, drop, length-take, length-drop}
use lib.Dec.{eqb}
use borrow.Author.Tests.{eq-eqb, ne_eqb, eqb-true}
use Rattle.lists.specs.Lists.{first_with, keep, same_list}
use Rattle.lists.specs.Laws.{both_left, both_right}
use Rattle.lists.specs.Tests.{not_so}
use Rattle.table.specs.Table.{Table, Headed}
use Rattle.table.specs.Layout.{most_parts, most_words, the_table}
use Rattle.sections.specs.Laid.{Laid}
use Rattle.table.specs.Spans.{within}
use Rattle.table.specs.Part.{HeadedAt, HeadedHere}
use Rattle.table.proofs.Lookups.{drop-two}
use Rattle.table.proofs.Records.{headed_step}
use Rattle.table.specs.declared.Span.{Span}
use Rattle.sections.proofs.SectionLaws.{laid_small}
use Rattle.sections.specs.declared.Sections.{Sections}
use Rattle.std.specs.Prelude.{Some, None}
use Rattle.std.specs.Prelude as std
use Rattle.text.specs.Composition.{is_two, is_pair, table_pair, pair}
use Rattle.pair_index.specs.Index.{words_of, EachFrom, StandsIn, Bounds}
use Rattle.unpaired.specs.Unpaired.{may_compose, pair_places, record_at, is_pair_at, Unpaired, Asked}
use Rattle.pair_entering.proofs.Each.{each_map, each_past}
use Rattle.unpaired.proofs.Places.{walk_past, record_past, part_walk, part_words}
use Rattle.pairs.specs.Found.{headed_at, is_pair_of, pair_at, composed_to, PairFound}
use Rattle.text.specs.Hangul.{hangul_pair}

and_true : (b : Bool) → (b && true) ≡ b
and_true true = refl
and_true false = refl

and_false : (b : Bool) → (b && false) ≡ false
and_false true = refl
and_false false = refl

two-length : (xs : List ℕ) → is_two xs ≡ true → length xs ≡ 2
two-length [] e = absurd (let z : ◌≡◌ {A = ℕ} 0 1 = cc in omega arith)
two-length (a ∷ []) e = absurd (let z : ◌≡◌ {A = ℕ} 0 1 = cc in omega arith)
two-length (a ∷ b ∷ []) e = refl
two-length (a ∷ b ∷ c ∷ r) e = absurd (let z : ◌≡◌ {A = ℕ} 0 1 = cc in omega arith)

not_two : (xs : List ℕ) → (length xs ≡ 2 → ⊥) → is_two xs ≡ false
not_two xs n = go (is_two xs) refl
  where
    go : (b : Bool) → is_two xs ≡ b → b ≡ false
    go true e = absurd (n (two-length xs e))
    go false e = refl

-- the test of the record at a place, by what the code asks in turn
module _ (t : Table) (part : List ℕ) (at a b : ℕ) (fits : at + 2 + get_or part (at + 1) 0 ≤ length part) where
  pub count_differs : (get_or part (at + 1) 0 ≡ 2 → ⊥) → false ≡ pair_at t part at a b
  unfolding pair_at
  count_differs h =
      let l : length (take (get_or part (at + 1) 0) (drop (at + 2) part)) ≡ get_or part (at + 1) 0 = simp (length-take, length-drop) (omega arith) in
      rw (not_two (take (get_or part (at + 1) 0) (drop (at + 2) part)) (λ e. h (sym l ∙ e)))

  items_are : get_or part (at + 1) 0 ≡ 2 → take (get_or part (at + 1) 0) (drop (at + 2) part) ≡ get_or part (at + 2) 0 ∷ get_or part (at + 3) 0 ∷ []
  items_are e =
      let three : at + 2 + 1 ≡ at + 3 = omega arith in
      rw (e, drop-two part (at + 2) (omega arith), three)

  pair_is : get_or part (at + 1) 0 ≡ 2
      → pair_at t part at a b ≡ (may_compose t (get_or part at 0) (get_or part (at + 2) 0) && (eqb (get_or part (at + 2) 0) a && (eqb (get_or part (at + 3) 0) b && true)))
  unfolding pair_at
  pair_is e = rw (items_are e)

  pub first_differs : get_or part (at + 1) 0 ≡ 2 → (get_or part (at + 2) 0 ≡ a → ⊥) → false ≡ pair_at t part at a b
  first_differs e h = sym (pair_is e ∙ rw (ne_eqb (get_or part (at + 2) 0) a h) (and_false (may_compose t (get_or part at 0) (get_or part (at + 2) 0))))

  pub second_differs : get_or part (at + 1) 0 ≡ 2 → get_or part (at + 2) 0 ≡ a → (get_or part (at + 3) 0 ≡ b → ⊥) → false ≡ pair_at t part at a b
  second_differs e f h =
      sym
      (pair_is e
      ∙ rw (eq-eqb (get_or part (at + 2) 0) a f, ne_eqb (get_or part (at + 3) 0) b h) (and_false (may_compose t (get_or part at 0) (get_or part (at + 2) 0))))

  pub items_agree : get_or part (at + 1) 0 ≡ 2 → get_or part (at + 2) 0 ≡ a → get_or part (at + 3) 0 ≡ b → may_compose t (get_or part at 0) a ≡ pair_at t part at a b
  items_agree e f g =
      sym
      (pair_is e
      ∙ rw (eq-eqb (get_or part (at + 2) 0) a f, eq-eqb (get_or part (at + 3) 0) b g, f) (and_true (may_compose t (get_or part at 0) a)))

-- the first of those that pass one test to pass another is the first to pass both
first-keep : (p q : Headed → Bool) (rs : List Headed) → first_with p (keep q rs) ≡ first_with (λ r. q r && p r) rs
first-keep p q [] = refl
first-keep p q (r ∷ rs) = go (q r) (first-keep p q rs)
  where
    go : (b : Bool) → first_with p (keep q rs) ≡ first_with (λ r. q r && p r) rs
        → first_with p (cond b (r ∷ keep q rs) (keep q rs)) ≡ cond (b && p r) (some r) (first_with (λ r. q r && p r) rs)
    go true h = rw h
    go false h = h

-- the record at a place is a composition pair, by what the code asks in turn
pub pair_may : (t : Table) (part : List ℕ) (at a : ℕ) → at + 2 + get_or part (at + 1) 0 ≤ length part → get_or part (at + 1) 0 ≡ 2 → get_or part (at + 2) 0 ≡ a
    → is_pair t (headed_at part at) ≡ may_compose t (get_or part at 0) a
unfolding is_pair
pair_may t part at a fits e f = rw (items_are t part at a a fits e, f)

-- a record of other items is none of a and b
items_same : (xs ys : List ℕ) → same_list xs ys ≡ true → xs ≡ ys
items_same [] [] e = refl
items_same [] (y ∷ ys) e = absurd (false≢true e)
items_same (x ∷ xs) [] e = absurd (false≢true e)
items_same (x ∷ xs) (y ∷ ys) e = let h : x ≡ y = eqb-true x y (both_left (eqb x y) (same_list xs ys) e) in rw (h, items_same xs ys (both_right (eqb x y) (same_list xs ys) e))

-- a record of these items stands before `to`
abbrev Before : ℕ → ℕ → ℕ → ℕ → Headed → Type 0
Before to a b p x = x.items ≡ a ∷ b ∷ [] → p < to

module _ (t : Table) (a b : ℕ) where
  other : (x : Headed) → (x.items ≡ a ∷ b ∷ [] → ⊥) → is_pair_of t a b x ≡ false
  other x n = rw (not_so (same_list x.items (a ∷ b ∷ [])) (λ e. n (items_same x.items (a ∷ b ∷ []) e))) (and_false (is_pair t x))

  -- records before the first that may have these items
  pass_before : (s : Span) (at : ℕ) (xs ys : List Headed) → at + words_of xs ≤ s.from → EachFrom (StandsIn s a b) at (xs ++ ys)
      → first_with (is_pair_of t a b) (xs ++ ys) ≡ first_with (is_pair_of t a b) ys
  unfolding words_of EachFrom
  pass_before s at [] ys h e = refl
  pass_before s at (x ∷ xs) ys h e =
      rw (other x (λ q. omega (arith, (e.0 q).0))) (pass_before s (at + 2 + length x.items) xs ys (omega arith) e.1)

  -- and behind the last
  pass_behind : (to at : ℕ) (xs : List Headed) → to ≤ at → EachFrom (Before to a b) at xs → first_with (is_pair_of t a b) xs ≡ none
  unfolding EachFrom
  pass_behind to at [] h e = refl
  pass_behind to at (x ∷ xs) h e =
      rw (other x (λ q. omega (arith, e.0 q))) (pass_behind to (at + 2 + length x.items) xs (omega arith) e.1)

-- what the walk over the records keeps: the pair is among those that are left
pub record PairWalk (t : Table) (part : List ℕ) (a b to at : ℕ) (set : List ℕ) : Type 0 where
  pub left : List Headed
  pub walk : HeadedAt most_parts part at left
  pub so : table_pair t a b ≡ map (λ (r : Headed). r.head) (first_with (is_pair_of t a b) left)
  pub from : (i : ℕ) → at ≤ 3 * i + 2 → record_at 0 t.decompositions i ≡ record_at at left i
  pub each : EachFrom (Before to a b) at left
  pub inside : to ≤ length part
  pub short : length part ≤ most_words
  pub unpaired : Unpaired t set

pub pair_start : (ws : List ℕ) (ix : Sections) (part : List ℕ) (s : Span) (a b : ℕ) (set : List ℕ) → Laid ws ix → part ≡ within ix.decompositions ws
    → Unpaired (the_table ws) set → Bounds (the_table ws).decompositions a b s → PairWalk (the_table ws) part a b s.to s.from set
unfolding table_pair
pair_start ws ix part s a b set laid e u bounds =
    let t : Table = the_table ws in
    let small = laid_small ws ix laid in
    let q = bounds.start in
    let walk : HeadedAt most_parts part 0 (q.before ++ q.left) = subst (λ (l : List Headed). HeadedAt most_parts part 0 l) q.split (rw e (part_walk ws ix laid)) in
    let each : EachFrom (StandsIn s a b) 0 (q.before ++ q.left) = subst (λ (l : List Headed). EachFrom (StandsIn s a b) 0 l) q.split bounds.each in
    let at : 0 + words_of q.before ≡ s.from = omega (arith, q.place) in
    record {
      left = q.left;
      walk = rw at at (walk_past most_parts part 0 q.before q.left walk);
      so = ap (map (λ (r : Headed). r.head))
          (first-keep (λ (r : Headed). same_list r.items (a ∷ b ∷ [])) (is_pair t) t.decompositions
          ∙ ap (λ (l : List Headed). first_with (is_pair_of t a b) l) q.split
          ∙ pass_before t a b s 0 q.before q.left (omega (arith, q.place)) each);
      from = λ i h. ap (λ (l : List Headed). record_at 0 l i) q.split ∙ rw at at (record_past most_parts part 0 i q.before q.left walk (omega (arith, q.place, h)));
      each = rw at at (each_past (Before s.to a b) 0 q.before q.left (each_map (StandsIn s a b) (Before s.to a b) (λ p x h i. (h i).1) 0 (q.before ++ q.left) each));
      inside = omega (arith, bounds.stop, part_words ws ix laid, ap (λ (l : List ℕ). length l) e);
      short = rw e (simp (length-take, length-drop) (omega arith));
      unpaired = u;
    }

module _ (t : Table) (part : List ℕ) (a b to at : ℕ) (set : List ℕ) (w : PairWalk t part a b to at set) where
  pub pair-stop : to ≤ at → PairFound t set (table_pair t a b) None
  pair-stop h = record { is = sym (w.so ∙ rw (pass_behind t a b to at w.left h w.each)); unpaired = w.unpaired }

  module _ (more : at < to) where
    here : HeadedHere most_parts part at w.left
    here = headed_step most_parts part at w.left w.walk (omega (arith, more, w.inside))

    pub pair_fits : at + 2 + get_or part (at + 1) 0 ≤ length part
    pair_fits = here.fits

    pub pair-number : at / 3 < pair_places
    pair-number = omega (arith, more, w.inside, w.short)

    first_is : here.first ≡ headed_at part at
    first_is = λ i. record { head = here.head i; items = here.items i }

    count : length here.first.items ≡ get_or part (at + 1) 0
    count = ap (λ (l : List ℕ). length l) here.items ∙ simp (length-take, length-drop) (omega (arith, here.fits))

    left_is : record_at at w.left (at / 3) ≡ here.first
    unfolding record_at
    left_is = ap (λ (l : List Headed). record_at at l (at / 3)) here.split ∙ rw (eq-eqb (at / 3) (at / 3) refl)

    pub pair_numbered : is_pair_at t (at / 3) ≡ is_pair t (headed_at part at)
    unfolding is_pair_at
    pair_numbered = ap (is_pair t) (w.from (at / 3) (omega arith) ∙ left_is ∙ first_is)

    found : first_with (is_pair_of t a b) w.left ≡ cond (pair_at t part at a b) (some (headed_at part at)) (first_with (is_pair_of t a b) here.rest)
    unfolding pair_at
    found = ap (first_with (is_pair_of t a b)) here.split ∙ ap (λ (r : Headed). cond (is_pair_of t a b r) (some r) (first_with (is_pair_of t a b) here.rest)) first_is

    module _ (set' : List ℕ) (r : Bool) (q : Asked t set' (pair_at t part at a b) r) where
      pub pair_hit : r ≡ true → PairFound t set' (table_pair t a b) (Some (get_or part at 0))
      pair_hit e = record { is = sym (w.so ∙ rw (found, ← q.is, e)); unpaired = q.unpaired }

      pub pair_on : (next : ℕ) → next ≡ at + 2 + get_or part (at + 1) 0 → r ≡ false → PairWalk t part a b to next set'
      unfolding record_at EachFrom
      pair_on next n e =
          let place : at + 2 + length here.first.items ≡ next = omega (arith, n, count) in
          let each : EachFrom (Before to a b) at (here.first ∷ here.rest) = subst (λ (l : List Headed). EachFrom (Before to a b) at l) here.split w.each in
          record {
            left = here.rest;
            walk = rw n here.next;
            so = w.so ∙ rw (found, ← q.is, e);
            from = λ i h. w.from i (omega (arith, n, h)) ∙ ap (λ (l : List Headed). record_at at l i) here.split
                ∙ rw (ne_eqb (at / 3) i (λ f. omega (arith, n, h, here.low)), place);
            each = rw place at each.1;
            inside = w.inside;
            short = w.short;
            unpaired = q.unpaired;
          }

-- Hangul comes first, then the table
pub pair_hangul : (t : Table) (a b h : ℕ) (r : std.Option ℕ) → composed_to r ≡ hangul_pair a b → r ≡ Some h → some h ≡ pair t a b
unfolding pair
pair_hangul t a b h r e q = rw (← e, q)

pub pair-table : (t : Table) (a b : ℕ) (r : std.Option ℕ) → composed_to r ≡ hangul_pair a b → r ≡ None → table_pair t a b ≡ pair t a b
unfolding pair
pair-table t a b r e q = rw (← e, q)
