-- What the lookups over a section's words have to do with those in a table.
use Prim.Native.Nat.{ℕ, zero, suc, ◌+◌, ◌-◌, ◌<◌, ◌≤◌}
use native.Mathlib.Numerals.{add-one, unary_clauses}
use native.Mathlib.Omega.{arith}
use mathlib.Core.Path.{◌≡◌, refl, ◌∙◌}
use mathlib.Core.Bool.{Bool, true, false, ◌&&◌, ◌||◌, cond}
use mathlib.Core.List.{List, [], ◌∷◌, ◌++◌}
use mathlib.Core.Option.{Option, none, some}
use lib.ListN.{length, get_or, take, drop, length-take, length-drop, drop_of_length-le}
use lib.Seq.{drop-cons, drop-drop, take-nil, take-take}
use lib.Dec.{leb, ltb, eqb}
use borrow.Author.Tests.{ltb-true, ltb-false, leb-true}
use Rattle.std.specs.Prelude.{Some, None}
use Rattle.std.specs.Borrow.{Bor}
use Rattle.std.specs.declared.slice.ChunksExact.{ChunksExact}
use Rattle.lists.specs.Lists.{all, and_then}
use Rattle.table.specs.declared.Span.{Span}
use Rattle.table.specs.Spans.{within, Fits}
use Rattle.table.specs.Table.{Range, ClassRange}
use Rattle.table.specs.Layout.{only_if, in_front, ranges, class_ranges, excluded, most_class}
use Rattle.table.specs.Lookup.{in_ranges, table_class}
use Rattle.table.specs.Part.{in_pairs, class_among, EntryFound, ClassFound}

-- nothing and something, no and yes, are never the same
pub none-some : {A : Type 0} (x : A) → none ≡ some x → ⊥
none-some x e = let z : ◌≡◌ {A = ℕ} 0 1 = cc in omega arith

pub false_true : false ≡ true → ⊥
false_true e = let z : ◌≡◌ {A = ℕ} 0 1 = cc in omega arith

-- both tests passed
pub both : (a b : Bool) → a && b ≡ true → (a ≡ true) × (b ≡ true)
both true b e = (refl, e)
both false b e = absurd (false_true e)

module _ {A : Type 0} where
  -- what made a result out of a test, and out of an entry in front
  pub only_if-some : (b : Bool) (o : Option A) (x : A) → only_if b o ≡ some x → (b ≡ true) × (o ≡ some x)
  only_if-some true o x e = (refl, e)
  only_if-some false o x e = absurd (none-some x e)

  pub in_front-some : (x : A) (o : Option (List A)) (xs : List A) → in_front x o ≡ some xs → (rest : List A) × (o ≡ some rest) × (xs ≡ x ∷ rest)
  in_front-some x none xs e = absurd (none-some xs e)
  in_front-some x (some rest) xs e = (rest, refl, cc)

module _ {A B : Type 0} where
  pub and_then-some : (o : Option A) (f : A → Option B) (y : B) → and_then o f ≡ some y → (a : A) × (o ≡ some a) × (f a ≡ some y)
  and_then-some none f y e = absurd (none-some y e)
  and_then-some (some a) f y e = (a, refl, e)

pub pairs-ranges : (c : ℕ) (ws : List ℕ) (rs : List Range) → ranges ws ≡ some rs → in_pairs c ws ≡ in_ranges c rs
unfolding ranges in_pairs
pairs-ranges c [] rs h = cc
pairs-ranges c (a ∷ []) rs h = cc
pairs-ranges c (a ∷ b ∷ ws) rs h =
    let p = only_if-some (leb a b) (in_front (record { first = a; last = b }) (ranges ws)) rs h in
    let q = in_front-some (record { first = a; last = b }) (ranges ws) rs p.1 in
    rw (q.2, pairs-ranges c ws q.0 q.1)

pub class-ranges : (c : ℕ) (ws : List ℕ) (rs : List ClassRange) → class_ranges ws ≡ some rs → class_among c ws ≡ table_class rs c
unfolding class_ranges class_among table_class
class-ranges c [] rs h = let same : rs ≡ [] = cc in rw same
class-ranges c (a ∷ []) rs h = cc
class-ranges c (a ∷ b ∷ []) rs h = cc
class-ranges c (a ∷ b ∷ k ∷ ws) rs h =
    let p = only_if-some (leb a b && leb k most_class) (in_front (record { first = a; last = b; class = k }) (class_ranges ws)) rs h in
    let q = in_front-some (record { first = a; last = b; class = k }) (class_ranges ws) rs p.1 in
    rw q.2 (pick (leb a c && leb c b) q.0 refl (class-ranges c ws q.0 q.1))
  where
    pick : (t : Bool) (rs' : List ClassRange) → leb a c && leb c b ≡ t → class_among c ws ≡ table_class rs' c
        → class_among c (a ∷ b ∷ k ∷ ws) ≡ table_class (record { first = a; last = b; class = k } ∷ rs') c
    pick true rs' f e = rw f
    pick false rs' f e = rw (f, e)

pub class_small : (c : ℕ) (ws : List ℕ) (rs : List ClassRange) → class_ranges ws ≡ some rs → class_among c ws ≤ most_class
unfolding class_ranges class_among
class_small c [] rs h = omega arith
class_small c (a ∷ []) rs h = omega arith
class_small c (a ∷ b ∷ []) rs h = omega arith
class_small c (a ∷ b ∷ k ∷ ws) rs h =
    let p = only_if-some (leb a b && leb k most_class) (in_front (record { first = a; last = b; class = k }) (class_ranges ws)) rs h in
    let q = in_front-some (record { first = a; last = b; class = k }) (class_ranges ws) rs p.1 in
    pick (leb a c && leb c b) (leb-true _ _ (both (leb a b) (leb k most_class) p.0).1) (class_small c ws q.0 q.1)
  where
    pick : (t : Bool) → k ≤ most_class → class_among c ws ≤ most_class → cond t k (class_among c ws) ≤ most_class
    pick true i j = i
    pick false i j = j

-- the answer of a class lookup
pub class-found : (c r : ℕ) (ws : List ℕ) (rs : List ClassRange) → class_ranges ws ≡ some rs → r ≡ class_among c ws → ClassFound rs c r
class-found c r ws rs h e = record { same = e ∙ class-ranges c ws rs h; small = rw e (class_small c ws rs h) }

-- the words from a place on are the word there and those from the next place on
pub drop-next : (ws : List ℕ) (i : ℕ) → i < length ws → drop i ws ≡ get_or ws i 0 ∷ drop (i + 1) ws
drop-next ws i h = rw add-one (drop-cons ws i 0 h)

pub drop-two : (ws : List ℕ) (i : ℕ) → 1 < length ws - i → drop i ws ≡ get_or ws i 0 ∷ get_or ws (i + 1) 0 ∷ drop (i + 2) ws
drop-two ws i h =
    let step : drop i ws ≡ get_or ws i 0 ∷ drop (i + 1) ws = drop-next ws i (omega arith) in
    let then : drop (i + 1) ws ≡ get_or ws (i + 1) 0 ∷ drop (i + 1 + 1) ws = drop-next ws (i + 1) (omega arith) in
    let sum : i + 1 + 1 ≡ i + 2 = omega arith in
    rw (step, then, sum)

pub drop-three : (ws : List ℕ) (i : ℕ) → 2 < length ws - i
    → drop i ws ≡ get_or ws i 0 ∷ get_or ws (i + 1) 0 ∷ get_or ws (i + 2) 0 ∷ drop (i + 3) ws
drop-three ws i h =
    let step : drop i ws ≡ get_or ws i 0 ∷ get_or ws (i + 1) 0 ∷ drop (i + 2) ws = drop-two ws i (omega arith) in
    let then : drop (i + 2) ws ≡ get_or ws (i + 2) 0 ∷ drop (i + 2 + 1) ws = drop-next ws (i + 2) (omega arith) in
    let sum : i + 2 + 1 ≡ i + 3 = omega arith in
    rw (step, then, sum)

-- A search over words that has come to `i` without a result: f gives for the words from `i` on what it gives for all.
pub record Walk {A : Type 0} (f : List ℕ → A) (ws : List ℕ) (i : ℕ) : Type 0 where
  pub inside : i ≤ length ws
  pub same : f ws ≡ f (drop i ws)

module _ {A : Type 0} (f : List ℕ → A) (ws : List ℕ) where
  pub walk_start : Walk f ws 0
  walk_start = record { inside = omega arith; same = refl }

  pub walk_on : (i k : ℕ) → Walk f ws i → i + k ≤ length ws → f (drop i ws) ≡ f (drop (i + k) ws) → Walk f ws (i + k)
  walk_on i k w h e = record { inside = h; same = w.same ∙ e }

-- over words each of which is to pass a test
module _ (p : ℕ → Bool) (s : List ℕ) (i : ℕ) (w : Walk (all p) s i) where
  pub all_on : i < length s → p (get_or s i 0) ≡ true → Walk (all p) s (i + 1)
  all_on h e = walk_on _ _ i 1 w (omega arith) (rw (drop-next s i h, e))

  pub all_not : i < length s → p (get_or s i 0) ≡ false → all p s ≡ false
  all_not h e = rw (w.same, drop-next s i h, e)

  pub all-stop : length s ≤ i → all p s ≡ true
  all-stop h = rw (w.same, drop_of_length-le s h)

-- tests that agree on every number agree on all of a list
pub all_same : (p q : ℕ → Bool) → ((c : ℕ) → p c ≡ q c) → (s : List ℕ) → all p s ≡ all q s
all_same p q e [] = refl
all_same p q e (c ∷ s) = rw (e c, all_same p q e s)

-- over pairs and triples, by their places
pub pairs_on : (c : ℕ) (ws : List ℕ) (i : ℕ) → Walk (in_pairs c) ws i → 1 < length ws - i
    → false ≡ (leb (get_or ws i 0) c && leb c (get_or ws (i + 1) 0)) → Walk (in_pairs c) ws (i + 2)
unfolding in_pairs
pairs_on c ws i w h e = walk_on _ _ i 2 w (omega arith) (rw (drop-two ws i h, ← e))

pub class_on : (c : ℕ) (ws : List ℕ) (i : ℕ) → Walk (class_among c) ws i → 2 < length ws - i
    → false ≡ (leb (get_or ws i 0) c && leb c (get_or ws (i + 1) 0)) → Walk (class_among c) ws (i + 3)
unfolding class_among
class_on c ws i w h e = walk_on _ _ i 3 w (omega arith) (rw (drop-three ws i h, ← e))

-- the first pair, and the rest
pairs_first : (c : ℕ) (x ws : List ℕ) → length x ≡ 2
    → in_pairs c (x ++ ws) ≡ ((leb (get_or x 0 0) c && leb c (get_or x 1 0)) || in_pairs c ws)
unfolding in_pairs
pairs_first c [] ws l = absurd (omega arith)
pairs_first c (a ∷ []) ws l = absurd (omega arith)
pairs_first c (a ∷ b ∷ []) ws l = refl
pairs_first c (a ∷ b ∷ d ∷ x) ws l = absurd (omega arith)

-- the first triple, and the rest
class_first : (c : ℕ) (x ws : List ℕ) → length x ≡ 3
    → class_among c (x ++ ws) ≡ cond (leb (get_or x 0 0) c && leb c (get_or x 1 0)) (get_or x 2 0) (class_among c ws)
unfolding class_among
class_first c [] ws l = absurd (omega arith)
class_first c (a ∷ []) ws l = absurd (omega arith)
class_first c (a ∷ b ∷ []) ws l = absurd (omega arith)
class_first c (a ∷ b ∷ d ∷ []) ws l = refl
class_first c (a ∷ b ∷ d ∷ e ∷ x) ws l = absurd (omega arith)

-- A search by pieces of `step` words: what is asked of the words that are left is what is asked of all.
pub record Pieces (step c : ℕ) (ws : List ℕ) (it : ChunksExact ℕ) : Type 0 where
  pub size : it.size ≡ step
  pub pairs : step ≡ 2 → in_pairs c ws ≡ in_pairs c it.rest.now
  pub triples : step ≡ 3 → class_among c ws ≡ class_among c it.rest.now

module _ (step c : ℕ) (ws : List ℕ) (it next : ChunksExact ℕ) (w : Pieces step c ws it) where
  module _ (x : Bor (List ℕ)) (e : it.rest.now ≡ x.now ++ next.rest.now) (l : length x.now ≡ it.size) where
    pub piece_hit : true ≡ (leb (get_or x.now 0 0) c && leb c (get_or x.now 1 0)) → EntryFound step c ws (Some x)
    piece_hit t =
        record {
          size = l ∙ w.size;
          pairs = λ s. rw (w.pairs s, e, pairs_first c x.now next.rest.now (l ∙ w.size ∙ s), ← t);
          triples = λ s. rw (w.triples s, e, class_first c x.now next.rest.now (l ∙ w.size ∙ s), ← t);
        }

    pub piece_on : next.size ≡ it.size → false ≡ (leb (get_or x.now 0 0) c && leb c (get_or x.now 1 0)) → Pieces step c ws next
    piece_on n t =
        record {
          size = n ∙ w.size;
          pairs = λ s. rw (w.pairs s, e, pairs_first c x.now next.rest.now (l ∙ w.size ∙ s), ← t);
          triples = λ s. rw (w.triples s, e, class_first c x.now next.rest.now (l ∙ w.size ∙ s), ← t);
        }

  pub piece-stop : length it.rest.now < it.size → EntryFound step c ws None
  unfolding in_pairs class_among
  piece-stop h =
      record {
        size = tt;
        pairs = λ s. rw (w.pairs s) (two it.rest.now (rw (w.size ∙ s) at h));
        triples = λ s. rw (w.triples s) (three it.rest.now (rw (w.size ∙ s) at h));
      }
    where
      two : (vs : List ℕ) → length vs < 2 → false ≡ in_pairs c vs
      two [] k = refl
      two (a ∷ []) k = refl
      two (a ∷ b ∷ vs) k = absurd (omega arith)

      three : (vs : List ℕ) → length vs < 3 → 0 ≡ class_among c vs
      three [] k = refl
      three (a ∷ []) k = refl
      three (a ∷ b ∷ []) k = refl
      three (a ∷ b ∷ d ∷ vs) k = absurd (omega arith)

-- the words of a part are its first word and those behind it
pub within-next : (ws : List ℕ) (s : Span) → Fits ws s → s.from < s.to
    → within s ws ≡ get_or ws s.from 0 ∷ within (record { from = s.from + 1; to = s.to }) ws
within-next ws s f h =
    let n : ℕ = s.to - (s.from + 1) in
    let more : s.to - s.from ≡ suc n = omega (arith, add-one n) in
    rw (drop-next ws s.from (omega arith), more)

-- a part has as many words as its places say
pub within-length : (ws : List ℕ) (s : Span) → Fits ws s → length (within s ws) ≡ s.to - s.from
within-length ws s f = simp (length-take, length-drop) (omega arith)

-- what is left of the first n words without the first a
pub drop-take : (a n : ℕ) (ws : List ℕ) → drop a (take n ws) ≡ take (n - a) (drop a ws)
drop-take zero n ws = simp unary_clauses
drop-take (suc a) zero ws = let e : 0 - suc a ≡ 0 = omega arith in rw e
drop-take (suc a) (suc n) [] = rw take-nil
drop-take (suc a) (suc n) (w ∷ ws) = simp unary_clauses (drop-take a n ws)

-- a part of a part is a part
abbrev pub behind : ℕ → Span → Span
behind n t = record { from = n + t.from; to = n + t.to }

module _ (ws : List ℕ) (s t : Span) (f : Fits ws s) (g : Fits (within s ws) t) where
  pub within-within : within t (within s ws) ≡ within (behind s.from t) ws
  within-within =
      let l : length (within s ws) ≡ s.to - s.from = within-length ws s f in
      let n : s.from + t.to - (s.from + t.from) ≡ t.to - t.from = omega arith in
      let h : t.to - t.from ≤ s.to - s.from - t.from = omega arith in
      rw (n, drop-take t.from (s.to - s.from) (drop s.from ws), take-take (t.to - t.from) (s.to - s.from - t.from) (drop t.from (drop s.from ws)) h, drop-drop t.from s.from ws)

  pub behind-fits : Fits ws (behind s.from t)
  behind-fits =
      let l : length (within s ws) ≡ s.to - s.from = within-length ws s f in
      record { ordered = omega arith; inside = omega arith }

-- where the excluded items stand
pub record ExcludedHere (ws : List ℕ) (s : Span) (xs : List ℕ) : Type 0 where
  pub some_left : s.from < s.to
  pub fits : Fits ws (record { from = s.from + 1; to = s.to })
  pub same : within (record { from = s.from + 1; to = s.to }) ws ≡ xs

pub excluded_here : (ws : List ℕ) (s : Span) (xs : List ℕ) → Fits ws s → excluded (within s ws) ≡ some xs → ExcludedHere ws s xs
unfolding excluded
excluded_here ws s xs f e = go (ltb s.from s.to) refl
  where
    go : (b : Bool) → ltb s.from s.to ≡ b → ExcludedHere ws s xs
    go true t =
        let h : s.from < s.to = ltb-true _ _ t in
        let items : List ℕ = within (record { from = s.from + 1; to = s.to }) ws in
        let n : ℕ = get_or ws s.from 0 in
        let p = only_if-some (eqb n (length items)) (some items) xs (rw (within-next ws s f h) at e) in
        record { some_left = h; fits = record { ordered = omega arith; inside = f.inside }; same = cc p.1 }
    go false t =
        let h : s.to ≤ s.from = ltb-false _ _ t in
        let none_left : s.to - s.from ≡ 0 = omega arith in
        let l : excluded [] ≡ some xs = rw none_left at e in
        absurd (none-some xs l)
