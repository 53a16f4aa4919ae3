-- Laws of composition in place.
use Prim.Native.Nat.{ℕ, zero, suc, ◌+◌, ◌≤◌, ◌<◌}
use native.Mathlib.Numerals.{add-one}
use native.Mathlib.Omega.{arith}
use mathlib.Core.Path.{◌≡◌, refl, sym, ap, ◌∙◌}
use mathlib.Core.Bool.{Bool, true, false, ◌&&◌, ◌||◌, cond}
use mathlib.Core.List.{List, [], ◌∷◌, ◌++◌, map, append_assoc, append-nil}
use mathlib.Core.Option.{Option, none, some}
use lib.ListN.{length, get_or, take, drop, set, length-append, length-set, drop_of_length-le, length-map}
use lib.Seq.{drop-cons, append_snoc, set_at, take_at, get_or_at, split_at, length-take-le, take-length, drop-length}
use lib.Dec.{leb, ltb, eqb}
use Rattle.std.specs.Prelude.{not}
use Rattle.std.specs.List.{prefix_len}
use borrow.Author.Tests.{eq-eqb, ne_eqb, eqb-true, lt-ltb, ltb-true, leb-true, le-leb}
use Rattle.lists.specs.Lists.{all}
use Rattle.table.specs.Table.{Table}
use Rattle.text.specs.Decomposition.{class_of}
use Rattle.text.specs.Composition.{pair, composed, compose_after, compose}
use Rattle.ordering.specs.Sorting.{in_order}
use Rattle.composition.specs.Work.{free, leading, ComposedInto}
use Rattle.text.proofs.Bools.{both, and_left, and_right}

-- one codepoint behind a starter and its marks: taken up, the next starter, or one more mark
module _ (t : Table) (s : ℕ) (ms : List ℕ) (c : ℕ) (r : List ℕ) where
  after-taken : (h : ℕ) → composed t s ms c ≡ some h → compose_after t s ms (c ∷ r) ≡ compose_after t h ms r
  unfolding compose_after
  after-taken h e = rw e

  after_starter : composed t s ms c ≡ none → class_of t c ≡ 0 → compose_after t s ms (c ∷ r) ≡ (s ∷ ms) ++ compose_after t c [] r
  unfolding compose_after
  after_starter e z = rw (e, eq-eqb (class_of t c) 0 z)

  after_mark : composed t s ms c ≡ none → (class_of t c ≡ 0 → ⊥) → compose_after t s ms (c ∷ r) ≡ compose_after t s (ms ++ (c ∷ [])) r
  unfolding compose_after
  after_mark e z = rw (e, ne_eqb (class_of t c) 0 z)

-- codepoints before the first starter stay
pub leading_end : (t : Table) (d : List ℕ) → compose t d ≡ take (leading (map (class_of t) d)) d ++ compose t (drop (leading (map (class_of t) d)) d)
unfolding compose leading
leading_end t [] = refl
leading_end t (c ∷ d) = go (eqb (class_of t c) 0) refl (leading_end t d)
  where
    n : ℕ
    n = leading (map (class_of t) d)

    go : (b : Bool) → eqb (class_of t c) 0 ≡ b → compose t d ≡ take n d ++ compose t (drop n d)
        → cond b (compose_after t c [] d) (c ∷ compose t d) ≡ take (cond b zero (suc n)) (c ∷ d) ++ compose t (drop (cond b zero (suc n)) (c ∷ d))
    go true e h = sym (rw e)
    go false e h = ap (λ (l : List ℕ). c ∷ l) h

-- the chain counts the classes before the first 0
pub leading_prefix : (ks : List ℕ) → prefix_len (λ k. not (eqb k 0)) ks ≡ leading ks
unfolding leading
leading_prefix [] = refl
leading_prefix (k ∷ ks) = go (eqb k 0) (leading_prefix ks)
  where
    go : (b : Bool) → prefix_len (λ j. not (eqb j 0)) ks ≡ leading ks → cond (not b) (1 + prefix_len (λ j. not (eqb j 0)) ks) zero ≡ cond b zero (suc (leading ks))
    go true e = refl
    go false e = omega (arith, e)

-- marks: what is kept of their classes is the last
pub free_more : (last k : ℕ) → last ≤ k → 0 < k → (j : ℕ) → (free last j && ltb k j) ≡ free k j
free_more last k h p j = go (ltb k j) refl
  where
    n : eqb k 0 ≡ false
    n = ne_eqb k 0 (omega arith)

    go : (b : Bool) → ltb k j ≡ b → (free last j && b) ≡ (eqb k 0 || ltb k j)
    go true e = rw (n, e, lt-ltb last j (omega (arith, ltb-true k j e))) (or_and (eqb last 0))
      where
        or_and : (a : Bool) → (a || true) && true ≡ true
        or_and true = refl
        or_and false = refl
    go false e = rw (n, e) (and_false (free last j))
      where
        and_false : (a : Bool) → (a && false) ≡ false
        and_false true = refl
        and_false false = refl

all_snoc : (p : ℕ → Bool) (xs : List ℕ) (x : ℕ) → all p (xs ++ (x ∷ [])) ≡ (all p xs && p x)
all_snoc p [] x = go (p x)
  where
    go : (b : Bool) → (b && true) ≡ b
    go true = refl
    go false = refl
all_snoc p (y ∷ xs) x = rw (all_snoc p xs x) (go (p y))
  where
    go : (b : Bool) → (b && (all p xs && p x)) ≡ ((b && all p xs) && p x)
    go true = refl
    go false = refl

-- classes that are in order
pub order_less : (p q : ℕ) (ks : List ℕ) → p ≤ q → in_order q ks ≡ true → in_order p ks ≡ true
unfolding in_order
order_less p q [] h o = refl
order_less p q (k ∷ ks) h o =
    both (eqb k 0 || leb p k) (in_order k ks) (go (eqb k 0) (and_left (eqb k 0 || leb q k) (in_order k ks) o)) (and_right (eqb k 0 || leb q k) (in_order k ks) o)
  where
    go : (b : Bool) → (b || leb q k) ≡ true → (b || leb p k) ≡ true
    go true e = refl
    go false e = le-leb p k (omega (arith, leb-true q k e))

pub order-next : (p k : ℕ) (ks : List ℕ) → in_order p (k ∷ ks) ≡ true → in_order k ks ≡ true
unfolding in_order
order-next p k ks o = and_right (eqb k 0 || leb p k) (in_order k ks) o

pub order_above : (p k : ℕ) (ks : List ℕ) → in_order p (k ∷ ks) ≡ true → (k ≡ 0 → ⊥) → p ≤ k
unfolding in_order
order_above p k ks o z =
    let e : (eqb k 0 || leb p k) ≡ true = and_left (eqb k 0 || leb p k) (in_order k ks) o in
    leb-true p k (rw (ne_eqb k 0 z) at e)

pub order-drop : (p : ℕ) (ks : List ℕ) (n : ℕ) → in_order p ks ≡ true → n < length ks → in_order (get_or ks n 0) (drop (suc n) ks) ≡ true
order-drop p [] n o h = absurd (omega arith)
order-drop p (k ∷ ks) zero o h = order-next p k ks o
order-drop p (k ∷ ks) (suc n) o h = order-drop k ks n (order-next p k ks o) (omega arith)

-- the gap between what is composed and what is not yet read, once the codepoint behind it is written to its front
shift_gap : ℕ → List ℕ → List ℕ
shift_gap c [] = []
shift_gap c (g ∷ gs) = gs ++ (c ∷ [])

gap_length : (c : ℕ) (gap : List ℕ) → length (shift_gap c gap) ≡ length gap
unfolding shift_gap
gap_length c [] = refl
gap_length c (g ∷ gs) = length-append gs (c ∷ []) ∙ omega arith

gap_set : (p gap : List ℕ) (c : ℕ) (r : List ℕ) (n : ℕ) → length p ≡ n → set (p ++ gap ++ c ∷ r) n c ≡ p ++ (c ∷ []) ++ shift_gap c gap ++ r
unfolding shift_gap
gap_set p [] c r n e = rw (append-nil p, append-nil (p ++ (c ∷ [])), append_snoc p c r) (set_at p c r c n e)
gap_set p (g ∷ gs) c r n e =
    rw (append_assoc p (g ∷ gs) (c ∷ r)) (set_at p g (gs ++ c ∷ r) c n e ∙ sym (rw (append_assoc (p ++ (c ∷ [])) (gs ++ (c ∷ [])) r, append_snoc p c (gs ++ (c ∷ []) ++ r), append_snoc gs c r)))

-- What the composing loop keeps. The text is: what is done, the starter with what it has taken up, the marks behind it that stayed, a
-- gap, and what is not yet read.
pub record Composing (t : Table) (d ks text : List ℕ) (start put i last : ℕ) : Type 0 where
  pub done : List ℕ
  pub starter : ℕ
  pub marks : List ℕ
  pub gap : List ℕ
  pub text_is : text ≡ done ++ (starter ∷ marks) ++ gap ++ drop i d
  pub start_is : length done ≡ start
  pub put_is : start + 1 + length marks ≡ put
  pub i_is : put + length gap ≡ i
  pub high : i ≤ length d
  pub same : length text ≡ length d
  pub beside : length ks ≡ length d
  pub so : compose t d ≡ done ++ compose_after t starter marks (drop i d)
  pub blocks : (k : ℕ) → all (λ m. ltb (class_of t m) k) marks ≡ free last k
  pub ordered : in_order last (drop i ks) ≡ true
  pub classes : ks ≡ map (class_of t) d

-- a list beside another
map_get : (f : ℕ → ℕ) (d : List ℕ) (n : ℕ) → n < length d → get_or (map f d) n 0 ≡ f (get_or d n 0)
map_get f [] n h = absurd (omega arith)
map_get f (c ∷ d) zero h = refl
map_get f (c ∷ d) (suc n) h = map_get f d n (omega arith)

leading-zero : (ks : List ℕ) → leading ks < length ks → get_or ks (leading ks) 0 ≡ 0
unfolding leading
leading-zero [] h = refl
leading-zero (k ∷ ks) h = go (eqb k 0) refl h (leading-zero ks)
  where
    go : (b : Bool) → eqb k 0 ≡ b → cond b zero (suc (leading ks)) < suc (length ks) → (leading ks < length ks → get_or ks (leading ks) 0 ≡ 0)
        → get_or (k ∷ ks) (cond b zero (suc (leading ks))) 0 ≡ 0
    go true e h more = eqb-true k 0 e
    go false e h more = more (omega arith)

compose_starter : (t : Table) (c : ℕ) (r : List ℕ) → class_of t c ≡ 0 → compose t (c ∷ r) ≡ compose_after t c [] r
unfolding compose
compose_starter t c r e = rw (eq-eqb (class_of t c) 0 e)

-- the start: the first starter is found
pub composing_start : (t : Table) (d ks : List ℕ) (n : ℕ) → ks ≡ map (class_of t) d → in_order 0 ks ≡ true → n ≡ leading ks → n < length d
    → Composing t d ks d n (n + 1) (n + 1) 0
composing_start t d ks n e o l h =
    let x : ℕ = get_or d n 0 in
    let len : length ks ≡ length d = ap length e ∙ length-map d (class_of t) in
    let zero-here : get_or ks n 0 ≡ 0 = rw l (leading-zero ks (omega arith)) in
    let class : class_of t x ≡ 0 = sym (map_get (class_of t) d n h) ∙ rw (← e) zero-here in
    let n-is : leading (map (class_of t) d) ≡ n = rw (← e) (sym l) in
    let lead : compose t d ≡ take n d ++ compose t (drop n d) = rw n-is at (leading_end t d) in
    let next : compose t (drop n d) ≡ compose_after t x [] (drop (suc n) d) = rw (drop-cons d n 0 h) (compose_starter t x (drop (suc n) d) class) in
    let front : take n d ++ (x ∷ []) ++ [] ++ drop (suc n) d ≡ d = rw (append-nil (take n d ++ (x ∷ [])), append_snoc (take n d) x (drop (suc n) d)) (sym (split_at d n 0 h)) in
    record {
      done = take n d;
      starter = x;
      marks = [];
      gap = [];
      text_is = rw (add-one n) (sym front);
      start_is = length-take-le n d (omega arith);
      put_is = omega arith;
      i_is = omega arith;
      high = omega arith;
      same = refl;
      beside = len;
      so = rw (add-one n, ← next) lead;
      blocks = λ k. refl;
      ordered = rw (add-one n, ← zero-here) (order-drop 0 ks n o (omega arith));
      classes = e;
    }

pieces_set : (done ms gap r : List ℕ) (s h n : ℕ) → length done ≡ n → set (done ++ (s ∷ ms) ++ gap ++ r) n h ≡ done ++ (h ∷ ms) ++ gap ++ r
pieces_set done ms gap r s h n e = simp append_assoc (set_at done s (ms ++ (gap ++ r)) h n e)

free_true : (last k : ℕ) → free last k ≡ true → last ≤ k
free_true last k e = go (eqb last 0) refl e
  where
    go : (b : Bool) → eqb last 0 ≡ b → (b || ltb last k) ≡ true → last ≤ k
    go true z e = omega (arith, eqb-true last 0 z)
    go false z e = omega (arith, ltb-true last k e)

cond-some : (b : Bool) (o : Option ℕ) (h : ℕ) → cond b o none ≡ some h → b ≡ true
cond-some true o h e = refl
cond-some false o h e = absurd (let z : ◌≡◌ {A = ℕ} 0 1 = cc in omega arith)

module _ (t : Table) (d ks text : List ℕ) (start put i last : ℕ) (o : Composing t d ks text start put i last) (more : i < length d) where
  abbrev c : ℕ
  c = get_or text i 0

  abbrev k : ℕ
  k = get_or ks i 0

  -- what the loop asks: what c composes to with the starter, where it is not blocked
  abbrev pub asked : Option ℕ
  asked = cond (free last k) (pair t (get_or text start 0) c) none

  abbrev front : List ℕ
  front = o.done ++ (o.starter ∷ o.marks)

  front_length : length front ≡ put
  front_length = length-append o.done (o.starter ∷ o.marks) ∙ omega (arith, o.start_is, o.put_is)

  read : c ≡ get_or d i 0
  read =
      let p : List ℕ = o.done ++ (o.starter ∷ o.marks) ++ o.gap in
      let n : length p ≡ i = length-append (o.done ++ (o.starter ∷ o.marks)) o.gap ∙ omega (arith, o.i_is, front_length) in
      rw (o.text_is, drop-cons d i 0 more) (get_or_at p (get_or d i 0) (drop (suc i) d) 0 i n)

  read_starter : get_or text start 0 ≡ o.starter
  read_starter = rw o.text_is (simp append_assoc (get_or_at o.done o.starter (o.marks ++ (o.gap ++ drop i d)) 0 start o.start_is))

  class : k ≡ class_of t c
  class = rw (o.classes, read) (map_get (class_of t) d i more)

  rest : drop i d ≡ c ∷ drop (suc i) d
  rest = rw read (drop-cons d i 0 more)

  rest_classes : drop i ks ≡ k ∷ drop (suc i) ks
  rest_classes = drop-cons ks i 0 (omega (arith, o.beside))

  in_order_lem : in_order last (k ∷ drop (suc i) ks) ≡ true
  in_order_lem = rw rest_classes at o.ordered

  found : composed t o.starter o.marks c ≡ asked
  found = rw (o.blocks (class_of t c), ← class, read_starter)

  so_here : compose t d ≡ o.done ++ compose_after t o.starter o.marks (c ∷ drop (suc i) d)
  so_here = rw rest at o.so

  text_here : text ≡ o.done ++ (o.starter ∷ o.marks) ++ o.gap ++ (c ∷ drop (suc i) d)
  text_here = rw rest at o.text_is

  pub taken : (h : ℕ) → asked ≡ some h → Composing t d ks (set text start h) start put (i + 1) last
  taken h e =
      let gap' : List ℕ = o.gap ++ (c ∷ []) in
      let is : set text start h ≡ o.done ++ (h ∷ o.marks) ++ gap' ++ drop (suc i) d =
      ap (λ (l : List ℕ). set l start h) text_here
      ∙ pieces_set o.done o.marks o.gap (c ∷ drop (suc i) d) o.starter h start o.start_is
      ∙ simp append_assoc in
      let fits : last ≤ k = free_true last k (cond-some (free last k) (pair t (get_or text start 0) c) h e) in
      record {
        done = o.done;
        starter = h;
        marks = o.marks;
        gap = gap';
        text_is = rw (add-one i) is;
        start_is = o.start_is;
        put_is = o.put_is;
        i_is = rw (length-append o.gap (c ∷ [])) (omega (arith, o.i_is));
        high = omega arith;
        same = length-set text start h ∙ o.same;
        beside = o.beside;
        so = rw (add-one i) (so_here ∙ ap (λ (l : List ℕ). o.done ++ l) (after-taken t o.starter o.marks c (drop (suc i) d) h (found ∙ e)));
        blocks = o.blocks;
        ordered = rw (add-one i) (order_less last k (drop (suc i) ks) fits (order-next last k (drop (suc i) ks) in_order_lem));
        classes = o.classes;
      }

  -- c written behind the marks
  write : set text put c ≡ front ++ (c ∷ []) ++ shift_gap c o.gap ++ drop (suc i) d
  write = ap (λ (l : List ℕ). set l put c) text_here ∙ gap_set front o.gap c (drop (suc i) d) put front_length

  written : put + 1 + length (shift_gap c o.gap) ≡ i + 1
  written = rw (gap_length c o.gap) (omega (arith, o.i_is))

  pub next_starter : asked ≡ none → k ≡ 0 → Composing t d ks (set text put c) put (put + 1) (i + 1) k
  next_starter e z =
      let so : compose t d ≡ front ++ compose_after t c [] (drop (suc i) d) =
      so_here
      ∙ ap (λ (l : List ℕ). o.done ++ l) (after_starter t o.starter o.marks c (drop (suc i) d) (found ∙ e) (sym class ∙ z))
      ∙ sym (append_assoc o.done (o.starter ∷ o.marks) (compose_after t c [] (drop (suc i) d))) in
      record {
        done = front;
        starter = c;
        marks = [];
        gap = shift_gap c o.gap;
        text_is = rw (add-one i) write;
        start_is = front_length;
        put_is = omega arith;
        i_is = written;
        high = omega arith;
        same = length-set text put c ∙ o.same;
        beside = o.beside;
        so = rw (add-one i) so;
        blocks = λ j. rw z;
        ordered = rw (add-one i) (order-next last k (drop (suc i) ks) in_order_lem);
        classes = o.classes;
      }

  pub mark_stays : asked ≡ none → (k ≡ 0 → ⊥) → Composing t d ks (set text put c) start (put + 1) (i + 1) k
  mark_stays e z =
      let up : last ≤ k = order_above last k (drop (suc i) ks) in_order_lem z in
      let is : set text put c ≡ o.done ++ (o.starter ∷ (o.marks ++ (c ∷ []))) ++ shift_gap c o.gap ++ drop (suc i) d =
      write ∙ ap (λ (l : List ℕ). l ++ shift_gap c o.gap ++ drop (suc i) d) (append_assoc o.done (o.starter ∷ o.marks) (c ∷ [])) in
      record {
        done = o.done;
        starter = o.starter;
        marks = o.marks ++ (c ∷ []);
        gap = shift_gap c o.gap;
        text_is = rw (add-one i) is;
        start_is = o.start_is;
        put_is = rw (length-append o.marks (c ∷ [])) (omega (arith, o.put_is));
        i_is = written;
        high = omega arith;
        same = length-set text put c ∙ o.same;
        beside = o.beside;
        so = rw (add-one i) (so_here ∙ ap (λ (l : List ℕ). o.done ++ l) (after_mark t o.starter o.marks c (drop (suc i) d) (found ∙ e) (λ q. z (class ∙ q))));
        blocks = λ j. all_snoc (λ m. ltb (class_of t m) j) o.marks c ∙ rw (o.blocks j, ← class) (free_more last k up (omega arith) j);
        ordered = rw (add-one i) (order-next last k (drop (suc i) ks) in_order_lem);
        classes = o.classes;
      }

-- the end: what is done, the starter and its marks are the composed text
pub composing_stop : (t : Table) (d ks text : List ℕ) (start put i last : ℕ) → Composing t d ks text start put i last → length d ≤ i → ComposedInto t d text put
unfolding compose_after
composing_stop t d ks text start put i last o h =
    let none_left : drop i d ≡ [] = drop_of_length-le d h in
    let p : List ℕ = o.done ++ (o.starter ∷ o.marks) in
    let is : compose t d ≡ p = rw none_left at o.so in
    let n : length p ≡ put = length-append o.done (o.starter ∷ o.marks) ∙ omega (arith, o.start_is, o.put_is) in
    record {
      count = sym (ap length is ∙ n);
      front = rw (is, o.text_is, append_assoc p o.gap (drop i d)) (take_at p (o.gap ++ drop i d) put n);
      same = o.same;
      room = omega (arith, o.i_is, o.high);
    }

leading_most : (ks : List ℕ) → leading ks ≤ length ks
unfolding leading
leading_most [] = omega arith
leading_most (k ∷ ks) = go (eqb k 0) (leading_most ks)
  where
    go : (b : Bool) → leading ks ≤ length ks → cond b zero (suc (leading ks)) ≤ suc (length ks)
    go true h = omega arith
    go false h = omega arith

-- nothing to compose: a text without a starter
pub composing_none : (t : Table) (d ks : List ℕ) (n : ℕ) → ks ≡ map (class_of t) d → n ≡ leading ks → length d ≤ n → ComposedInto t d d n
unfolding compose
composing_none t d ks n e l h =
    let len : length ks ≡ length d = ap length e ∙ length-map d (class_of t) in
    let n-is : n ≡ length d = omega (arith, leading_most ks) in
    let lead : leading (map (class_of t) d) ≡ length d = rw (← e) (sym l ∙ n-is) in
    let is : compose t d ≡ take (length d) d ++ compose t (drop (length d) d) = rw lead at (leading_end t d) in
    let same : compose t d ≡ d = is ∙ rw (take-length d, drop-length d) (append-nil d) in
    record { count = n-is ∙ sym (ap length same); front = rw n-is (take-length d ∙ sym same); same = refl; room = omega arith }
