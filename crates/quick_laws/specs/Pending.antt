-- A starter takes in what follows it although marks that compose with nothing were ordered in between, on any table.
use Rattle.std.specs.Prelude.{ℕ, ◌≤◌, ◌<◌, ◌≡◌, refl, Bool, true, false, cond, List, [], ◌∷◌, ◌++◌, ◌⊎◌, ltb}
use Rattle.std.proofs.Common.{arith, ap, ◌∙◌, inl, inr, ⊎_elim, lt-ltb}
use Rattle.std.proofs.Math.Option.{none, some}
use Rattle.lists.specs.Tests.{all_both}
use Rattle.table.specs.Table.{Table}
use Rattle.text.specs.Decomposition.{class_of}
use Rattle.text.specs.Ordering.{insert, order}
use Rattle.text.specs.Composition.{pair, unblocked, composed, compose_after}
use Rattle.text.specs.QuickCheck.{in_order, is_second}
use Rattle.text_laws.specs.Insertion.{Moves, Stays, in_order_rest, in_order_stays, moves_or_stays, insert_nil, insert-past, insert_here, starter_front, order_nil, order_cons, order_same}
use Rattle.text_laws.specs.Pairing.{not_second}
use Rattle.text_laws.specs.Composing.{after-taken, after_starts, after_stays}
use Rattle.quick_laws.specs.Own.{Takes}

module _ (t : Table) where
  -- one more mark of a lower class does not block x
  unblocked_more : (ms : List ℕ) (z x : ℕ) → unblocked t ms x ≡ true → class_of t z < class_of t x → unblocked t (ms ++ z ∷ []) x ≡ true
  unblocked_more ms z x u l = rw (all_both (λ n. ltb (class_of t n) (class_of t x)) ms (z ∷ []), u, lt-ltb (class_of t z) (class_of t x) l)

  -- up to the first starter of the text, what has a class below k is no second item
  abbrev pub Loose : ℕ → List ℕ → Type 0
  Loose k [] = Unit {0}
  Loose k (c ∷ s) = (class_of t c ≡ 0) ⊎ ((class_of t c < k → is_second t c ≡ false) × Loose k s)

  -- what is no second item composes with nothing
  none-composed : (s : ℕ) (ms : List ℕ) (c : ℕ) → is_second t c ≡ false → composed t s ms c ≡ none
  none-composed s ms c n = go (unblocked t ms c)
    where
      go : (b : Bool) → cond b (pair t s c) none ≡ none
      go true = not_second t s c n
      go false = refl

  pub after_pends : (s : ℕ) (ms : List ℕ) (c : ℕ) (r : List ℕ) → is_second t c ≡ false → 0 < class_of t c → compose_after t s ms (c ∷ r) ≡ compose_after t s (ms ++ c ∷ []) r
  after_pends s ms c r n z = after_stays t s ms c r (none-composed s ms c n) z

  pub after_next : (s : ℕ) (ms : List ℕ) (c : ℕ) (r : List ℕ) → is_second t c ≡ false → class_of t c ≡ 0 → compose_after t s ms (c ∷ r) ≡ s ∷ ms ++ compose_after t c [] r
  after_next s ms c r n z = after_starts t s ms c r (none-composed s ms c n) z

  -- x is taken in wherever ordering puts it
  taken_in : (s h : ℕ) (ms : List ℕ) (x : ℕ) (r : List ℕ) → pair t s x ≡ some h → unblocked t ms x ≡ true → Loose (class_of t x) r
      → compose_after t s ms (insert t x r) ≡ compose_after t h ms r
  taken_in s h ms x [] p u l = rw (insert_nil t x) (after-taken t s ms x [] h (rw u p))
  taken_in s h ms x (z ∷ r) p u l = ⊎_elim (λ m. past m l (λ v k. taken_in s h (ms ++ z ∷ []) x r p v k)) here (moves_or_stays t x z)
    where
      here : Stays t x z → compose_after t s ms (insert t x (z ∷ r)) ≡ compose_after t h ms (z ∷ r)
      here q = rw (insert_here t x z r q) (after-taken t s ms x (z ∷ r) h (rw u p))

      past : Moves t x z → Loose (class_of t x) (z ∷ r)
          → (unblocked t (ms ++ z ∷ []) x ≡ true → Loose (class_of t x) r → compose_after t s (ms ++ z ∷ []) (insert t x r) ≡ compose_after t h (ms ++ z ∷ []) r)
          → compose_after t s ms (insert t x (z ∷ r)) ≡ compose_after t h ms (z ∷ r)
      past m (inl e) below = absurd (omega arith)
      past m (inr q) below =
          let n : is_second t z ≡ false = q.0 m.1 in
          let v : unblocked t (ms ++ z ∷ []) x ≡ true = unblocked_more ms z x u m.1 in
          rw (insert-past t x z r m, after_pends s ms z (insert t x r) n m.0, after_pends h ms z r n m.0) (below v q.1)

  -- ordering keeps a text loose
  pub insert_loose : (k c : ℕ) (s : List ℕ) → (class_of t c < k → is_second t c ≡ false) → Loose k s → Loose k (insert t c s)
  insert_loose k c [] n l = rw (insert_nil t c) (inr (n, tt))
  insert_loose k c (d ∷ s) n l = ⊎_elim (λ m. past m l (insert_loose k c s n)) (λ q. rw (insert_here t c d s q) (inr (n, l))) (moves_or_stays t c d)
    where
      past : Moves t c d → Loose k (d ∷ s) → (Loose k s → Loose k (insert t c s)) → Loose k (insert t c (d ∷ s))
      past m (inl e) below = absurd (omega arith)
      past m (inr q) below = rw (insert-past t c d s m) (inr (q.0, below q.1))

  order_loose : (k : ℕ) (s : List ℕ) → Loose k s → Loose k (order t s)
  order_loose k [] l = rw (order_nil t) tt
  order_loose k (c ∷ s) (inl z) = rw (order_cons t c s, starter_front t c (order t s) z) (inl z)
  order_loose k (c ∷ s) (inr q) = rw (order_cons t c s) (insert_loose k c (order t s) q.0 (order_loose k s q.1))

  -- what stands in order behind x has no class below that of x, up to the first starter
  behind_loose : (k x : ℕ) (r s : List ℕ) → k ≤ class_of t x → in_order t (x ∷ r) ≡ true → Loose k s → Loose k (r ++ s)
  behind_loose k x [] s b o l = l
  behind_loose k x (z ∷ r) s b o l = stays (λ c. behind_loose k z r s c (in_order_rest t x (z ∷ r) o) l) (in_order_stays t x z r o)
    where
      stays : (k ≤ class_of t z → Loose k (r ++ s)) → Stays t x z → Loose k (z ∷ r ++ s)
      stays below (inl e) = inl e
      stays below (inr q) = inr ((λ c. absurd (omega arith)), below (omega arith))

  -- a starter takes in r, which stood behind it in order, although a text was ordered behind r, if its marks compose with nothing
  pub taken_through : (s : ℕ) (r : List ℕ) (c : ℕ) (l : List ℕ) → Takes t s r c → in_order t r ≡ true → in_order t l ≡ true → ((k : ℕ) → Loose k l)
      → compose_after t s [] (order t (r ++ l)) ≡ compose_after t c [] l
  taken_through s [] c l k o q f = rw (order_same t l q, k)
  taken_through s (x ∷ r) c l k o q f =
      let loose : Loose (class_of t x) (order t (r ++ l)) = order_loose (class_of t x) (r ++ l) (behind_loose (class_of t x) x r l (omega arith) o (f (class_of t x))) in
      let one : compose_after t s [] (insert t x (order t (r ++ l))) ≡ compose_after t k.0 [] (order t (r ++ l)) = taken_in s k.0 [] x (order t (r ++ l)) k.1 refl loose in
      ap (compose_after t s []) (order_cons t x (r ++ l)) ∙ one ∙ taken_through k.0 r c l k.2 (in_order_rest t x r o) q f
