-- Text that needs no NFC is left as it is (UAX 15, the quick check), on every table.
use Rattle.std.specs.Prelude.{ℕ, ◌<◌, ◌≡◌, Bool, false}
use Rattle.std.proofs.Math.Path.{sym, ap}
use Rattle.std.proofs.Common.{◌∙◌, inl}
use Rattle.std.proofs.Math.Bool.{true}
use mathlib.Core.List.{List, [], ◌∷◌, ◌++◌, append-nil, append_assoc}
use Rattle.std.proofs.Math.Logic.{⊎_elim}
use Rattle.lists.specs.Lists.{all}
use Rattle.lists.specs.Laws.{both_left, both_right}
use Rattle.table.specs.Table.{Table}
use Rattle.text.specs.Decomposition.{class_of, four_rounds}
use Rattle.text.specs.Ordering.{insert, order, nfd}
use Rattle.text.specs.Composition.{compose_after, compose, nfc}
use Rattle.text.specs.QuickCheck.{in_order, is_second, Quick}
use Rattle.text_laws.specs.Rounds.{fully, rounds_cons, rounds_nil}
use Rattle.text_laws.specs.Insertion.{in_order_rest, in_order_stays, insert_nil, insert_here, starter_front, order_nil, order_cons, order_ordered, order_same, order_front, order_back}
use Rattle.text_laws.specs.Composing.{after_nil, compose_nil, compose_starter, compose_mark, starter_or_mark}
use Rattle.quick_laws.specs.Own.{Whole, own_mark, own_starter}
use Rattle.quick_laws.specs.Pending.{Loose, insert_loose, after_pends, after_next, taken_through}

module _ (t : Table) where
  -- the full decomposition of a text from those of its first codepoint and its rest
  nfd_cons : (c : ℕ) (s : List ℕ) → nfd t (c ∷ s) ≡ order t (nfd t (c ∷ []) ++ nfd t s)
  unfolding nfd
  nfd_cons c s =
      ap (order t) (rounds_cons t c s) ∙ sym (order_back t (fully t c) (four_rounds t s)) ∙ sym (order_front t (fully t c) (order t (four_rounds t s)))

  nfd_nil : nfd t [] ≡ []
  unfolding nfd
  nfd_nil = rw (rounds_nil t) (order_nil t)

  nfd_ordered : (s : List ℕ) → in_order t (nfd t s) ≡ true
  unfolding nfd
  nfd_ordered s = order_ordered t (four_rounds t s)

  module _ (outside : ℕ → Bool) (q : Quick t outside) where
    -- a mark outside the set is its own full decomposition, and composes with nothing
    mark_first : (c : ℕ) (s : List ℕ) → outside c ≡ true → 0 < class_of t c → nfd t (c ∷ s) ≡ insert t c (nfd t s)
    mark_first c s o z =
        rw (nfd_cons c s, own_mark t c z (q.own c o)) (order_cons t c (nfd t s) ∙ ap (insert t c) (order_same t (nfd t s) (nfd_ordered s)))

    mark_alone : (c : ℕ) → outside c ≡ true → 0 < class_of t c → is_second t c ≡ false
    mark_alone c o z = rw (own_mark t c z (q.own c o)) at (q.start c o)

    -- the full decomposition of a text that starts with a starter outside the set
    pub record Starts (c : ℕ) (s : List ℕ) : Type 0 where
      pub whole : Whole t c (nfd t (c ∷ []))
      pub text : nfd t (c ∷ s) ≡ whole.first ∷ order t (whole.rest ++ nfd t s)
      pub tail : in_order t whole.rest ≡ true
      pub alone : is_second t whole.first ≡ false

    starter_first : (c : ℕ) (s : List ℕ) → outside c ≡ true → class_of t c ≡ 0 → Starts c s
    starter_first c s o z =
        let w : Whole t c (nfd t (c ∷ [])) = own_starter t c z (q.own c o) in
        let split : order t ((w.first ∷ w.rest) ++ nfd t s) ≡ w.first ∷ order t (w.rest ++ nfd t s) = order_cons t w.first (w.rest ++ nfd t s) ∙ starter_front t w.first (order t (w.rest ++ nfd t s)) w.starter in
        record {
          whole = w;
          text = nfd_cons c s ∙ rw w.is split;
          tail = in_order_rest t w.first w.rest (rw w.is at (nfd_ordered (c ∷ [])));
          alone = rw w.is at (q.start c o);
        }

    -- no mark before the first starter of a full decomposition is a second item
    all_loose : (s : List ℕ) → all outside s ≡ true → (k : ℕ) → Loose t k (nfd t s)
    all_loose [] o k = rw nfd_nil tt
    all_loose (c ∷ s) o k = ⊎_elim (λ z. starts (starter_first c s here z)) (λ z. marked z (all_loose s (both_right (outside c) (all outside s) o) k)) (starter_or_mark t c)
      where
        here : outside c ≡ true
        here = both_left (outside c) (all outside s) o

        starts : Starts c s → Loose t k (nfd t (c ∷ s))
        starts f = rw f.text (inl f.whole.starter)

        marked : 0 < class_of t c → Loose t k (nfd t s) → Loose t k (nfd t (c ∷ s))
        marked z l = rw (mark_first c s here z) (insert_loose t k c (nfd t s) (λ b. mark_alone c here z) l)

    -- a mark in order stands first
    mark_stands : (c : ℕ) (s : List ℕ) → all outside (c ∷ s) ≡ true → in_order t (c ∷ s) ≡ true → 0 < class_of t c → nfd t (c ∷ s) ≡ c ∷ nfd t s
    mark_stands c [] o i z = rw (mark_first c [] (both_left (outside c) true o) z, nfd_nil) (insert_nil t c)
    mark_stands c (d ∷ s) o i z = mark_first c (d ∷ s) (both_left (outside c) (all outside (d ∷ s)) o) z ∙ ⊎_elim (λ y. starts (starter_first d s here y)) (λ y. marked (mark_stands d s more (in_order_rest t c (d ∷ s) i) y)) (starter_or_mark t d)
      where
        more : all outside (d ∷ s) ≡ true
        more = both_right (outside c) (all outside (d ∷ s)) o

        here : outside d ≡ true
        here = both_left (outside d) (all outside s) more

        starts : Starts d s → insert t c (nfd t (d ∷ s)) ≡ c ∷ nfd t (d ∷ s)
        starts f = rw f.text (insert_here t c f.whole.first (order t (f.whole.rest ++ nfd t s)) (inl f.whole.starter))

        marked : nfd t (d ∷ s) ≡ d ∷ nfd t s → insert t c (nfd t (d ∷ s)) ≡ c ∷ nfd t (d ∷ s)
        marked e = rw e (insert_here t c d (nfd t s) (in_order_stays t c d s i))

    -- the starter of a full decomposition takes in what it was decomposed to
    starter_stands : (c : ℕ) (s : List ℕ) → all outside s ≡ true → (f : Starts c s) → compose_after t f.whole.first [] (order t (f.whole.rest ++ nfd t s)) ≡ compose_after t c [] (nfd t s)
    starter_stands c s o f =
        let w = f.whole in
        taken_through t w.first w.rest c (nfd t s) w.takes f.tail (nfd_ordered s) (all_loose s o)

    -- behind a starter and the marks that stayed
    after_left : (c : ℕ) (ms s : List ℕ) → all outside s ≡ true → in_order t s ≡ true → compose_after t c ms (nfd t s) ≡ c ∷ ms ++ s
    after_left c ms [] o i = rw (nfd_nil, append-nil ms) (after_nil t c ms)
    after_left c ms (x ∷ s) o i = ⊎_elim (λ z. starts (starter_first x s here z) (after_left x [] s more rest)) (λ z. marked z (after_left c (ms ++ x ∷ []) s more rest)) (starter_or_mark t x)
      where
        here : outside x ≡ true
        here = both_left (outside x) (all outside s) o

        more : all outside s ≡ true
        more = both_right (outside x) (all outside s) o

        rest : in_order t s ≡ true
        rest = in_order_rest t x s i

        starts : Starts x s → compose_after t x [] (nfd t s) ≡ x ∷ s → compose_after t c ms (nfd t (x ∷ s)) ≡ c ∷ ms ++ x ∷ s
        starts f e =
            rw f.text (after_next t c ms f.whole.first (order t (f.whole.rest ++ nfd t s)) f.alone f.whole.starter)
            ∙ ap (λ (l : List ℕ). c ∷ ms ++ l) (starter_stands x s more f ∙ e)

        marked : 0 < class_of t x → compose_after t c (ms ++ x ∷ []) (nfd t s) ≡ c ∷ (ms ++ x ∷ []) ++ s → compose_after t c ms (nfd t (x ∷ s)) ≡ c ∷ ms ++ x ∷ s
        marked z e =
            rw (mark_stands x s o i z, after_pends t c ms x (nfd t s) (mark_alone x here z) z) (e ∙ ap (λ (l : List ℕ). c ∷ l) (append_assoc ms (x ∷ []) s))

    -- text that needs no NFC is left as it is
    pub left_as_it_is : (s : List ℕ) → all outside s ≡ true → in_order t s ≡ true → nfc t s ≡ s
    unfolding nfc
    left_as_it_is [] o i = rw nfd_nil (compose_nil t)
    left_as_it_is (c ∷ s) o i = ⊎_elim starts (λ z. marked z (left_as_it_is s more rest)) (starter_or_mark t c)
      where
        more : all outside s ≡ true
        more = both_right (outside c) (all outside s) o

        rest : in_order t s ≡ true
        rest = in_order_rest t c s i

        starts : class_of t c ≡ 0 → compose t (nfd t (c ∷ s)) ≡ c ∷ s
        starts z =
            let f = starter_first c s (both_left (outside c) (all outside s) o) z in
            rw (f.text, compose_starter t f.whole.first (order t (f.whole.rest ++ nfd t s)) f.whole.starter) (starter_stands c s more f ∙ after_left c [] s more rest)

        marked : 0 < class_of t c → compose t (nfd t s) ≡ s → compose t (nfd t (c ∷ s)) ≡ c ∷ s
        marked z e = rw (mark_stands c s o i z, compose_mark t c (nfd t s) z, e)
