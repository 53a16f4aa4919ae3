-- Composition on any table: what it keeps, and its length.
use Rattle.std.specs.Prelude.{ℕ, suc, ◌+◌, ◌≤◌, ◌<◌, ◌≡◌, Bool, true, false, ◌⊎◌, length, eqb}
use Rattle.std.proofs.Common.{arith, ◌∙◌, inl, inr, ⊎_elim, length-append}
use Rattle.std.proofs.Math.Path.{refl}
use mathlib.Core.List.{List, [], ◌∷◌, ◌++◌}
use Rattle.std.proofs.Math.Option.{Option, none, some, none-ne-some}
use borrow.Author.Tests.{eqb-true, eqb-false, eq-eqb, ne_eqb}
use Rattle.lists.specs.Lists.{is_empty, mem}
use Rattle.lists.specs.Laws.{Every, every_append, every_member, every_of_all, mem_of, member_of, not_empty}
use Rattle.table.specs.Table.{Table}
use Rattle.text.specs.Decomposition.{class_of, four_rounds}
use Rattle.text.specs.Ordering.{nfd}
use Rattle.text.specs.Composition.{pair, unblocked, composed, compose_after, compose, nfc}
use Rattle.text_laws.specs.Parsed.{Shaped}
use Rattle.text_laws.specs.Rounds.{rounds-longer}
use Rattle.text_laws.specs.Insertion.{order_every, order-length}

module _ (t : Table) where
  -- the clauses of composition behind a starter
  pub after_nil : (s : ℕ) (ms : List ℕ) → compose_after t s ms [] ≡ s ∷ ms
  unfolding compose_after
  after_nil s ms = refl

  pub after-taken : (s : ℕ) (ms : List ℕ) (c : ℕ) (r : List ℕ) (h : ℕ) → composed t s ms c ≡ some h → compose_after t s ms (c ∷ r) ≡ compose_after t h ms r
  unfolding compose_after
  after-taken s ms c r h e = rw e

  pub after_starts : (s : ℕ) (ms : List ℕ) (c : ℕ) (r : List ℕ) → composed t s ms c ≡ none → class_of t c ≡ 0 → compose_after t s ms (c ∷ r) ≡ s ∷ ms ++ compose_after t c [] r
  unfolding compose_after
  after_starts s ms c r e z = rw (e, eq-eqb (class_of t c) 0 z)

  pub after_stays : (s : ℕ) (ms : List ℕ) (c : ℕ) (r : List ℕ) → composed t s ms c ≡ none → 0 < class_of t c → compose_after t s ms (c ∷ r) ≡ compose_after t s (ms ++ c ∷ []) r
  unfolding compose_after
  after_stays s ms c r e z = rw (e, ne_eqb (class_of t c) 0 (λ q. omega arith))

  -- Induction along a composition: what holds at the end of the text, and holds before each of the three steps where it holds
  -- behind it, holds of every composition. `P s ms r out`: behind the starter s and the marks ms the rest r is composed to out.
  pub record Steps (P : ℕ → List ℕ → List ℕ → List ℕ → Type 0) : Type 0 where
    pub ends : (s : ℕ) (ms : List ℕ) → P s ms [] (s ∷ ms)
    pub taken : (s : ℕ) (ms : List ℕ) (c : ℕ) (r : List ℕ) (h : ℕ) (out : List ℕ) → composed t s ms c ≡ some h → P h ms r out → P s ms (c ∷ r) out
    pub starts : (s : ℕ) (ms : List ℕ) (c : ℕ) (r out : List ℕ) → class_of t c ≡ 0 → P c [] r out → P s ms (c ∷ r) (s ∷ ms ++ out)
    pub stays : (s : ℕ) (ms : List ℕ) (c : ℕ) (r out : List ℕ) → 0 < class_of t c → P s (ms ++ c ∷ []) r out → P s ms (c ∷ r) out

  pub composing : (P : ℕ → List ℕ → List ℕ → List ℕ → Type 0) → Steps P → (s : ℕ) (ms r : List ℕ) → P s ms r (compose_after t s ms r)
  composing P f s ms [] = rw (after_nil s ms) (f.ends s ms)
  composing P f s ms (c ∷ r) = go (composed t s ms c) refl (eqb (class_of t c) 0) refl (λ (s₁ : ℕ) (ms₁ : List ℕ). composing P f s₁ ms₁ r)
    where
      go : (o : Option ℕ) → composed t s ms c ≡ o → (b : Bool) → eqb (class_of t c) 0 ≡ b
          → ((s₁ : ℕ) (ms₁ : List ℕ) → P s₁ ms₁ r (compose_after t s₁ ms₁ r)) → P s ms (c ∷ r) (compose_after t s ms (c ∷ r))
      go (some h) e b q below = rw (after-taken s ms c r h e) (f.taken s ms c r h (compose_after t h ms r) e (below h ms))
      go none e true q below =
          let z : class_of t c ≡ 0 = eqb-true (class_of t c) 0 q in
          rw (after_starts s ms c r e z) (f.starts s ms c r (compose_after t c [] r) z (below c []))
      go none e false q below =
          let z : 0 < class_of t c = omega (arith, eqb-false (class_of t c) 0 q) in
          rw (after_stays s ms c r e z) (f.stays s ms c r (compose_after t s (ms ++ c ∷ []) r) z (below s (ms ++ c ∷ [])))

  -- the clauses of composition
  pub compose_nil : compose t [] ≡ []
  unfolding compose
  compose_nil = refl

  pub compose_starter : (c : ℕ) (r : List ℕ) → class_of t c ≡ 0 → compose t (c ∷ r) ≡ compose_after t c [] r
  unfolding compose
  compose_starter c r z = rw (eq-eqb (class_of t c) 0 z)

  pub compose_mark : (c : ℕ) (r : List ℕ) → 0 < class_of t c → compose t (c ∷ r) ≡ c ∷ compose t r
  unfolding compose
  compose_mark c r z = rw (ne_eqb (class_of t c) 0 (λ q. omega arith))

  pub starter_or_mark : (c : ℕ) → (class_of t c ≡ 0) ⊎ (0 < class_of t c)
  starter_or_mark c = go (eqb (class_of t c) 0) refl
    where
      go : (b : Bool) → eqb (class_of t c) 0 ≡ b → (class_of t c ≡ 0) ⊎ (0 < class_of t c)
      go true e = inl (eqb-true (class_of t c) 0 e)
      go false e = inr (omega (arith, eqb-false (class_of t c) 0 e))

  -- what is composed is a pair
  pub composed-pair : (s : ℕ) (ms : List ℕ) (c h : ℕ) → composed t s ms c ≡ some h → (pair t s c ≡ some h) × (unblocked t ms c ≡ true)
  composed-pair s ms c h e = go (unblocked t ms c) refl
    where
      go : (b : Bool) → unblocked t ms c ≡ b → (pair t s c ≡ some h) × (unblocked t ms c ≡ true)
      go true q = (rw q at e, q)
      go false q = absurd (none-ne-some h (rw q at e))

  -- composition makes no text longer
  after-length : (s : ℕ) (ms r : List ℕ) → length (compose_after t s ms r) ≤ suc (length ms + length r)
  after-length = composing (λ s ms r out. length out ≤ suc (length ms + length r)) (record {
    ends = λ s ms. omega arith;
    taken = λ s ms c r h out e l. omega arith;
    starts = λ s ms c r out z l. simp length-append (omega arith);
    stays = λ s ms c r out z l. omega (arith, length-append ms (c ∷ []));
  })

  pub compose-length : (d : List ℕ) → length (compose t d) ≤ length d
  compose-length [] = rw compose_nil (omega arith)
  compose-length (c ∷ r) = ⊎_elim (λ z. rw (compose_starter c r z) (omega (arith, after-length c [] r))) (λ z. rw (compose_mark c r z) (omega (arith, compose-length r))) (starter_or_mark c)

  -- composition gives an empty text for an empty one only
  after-some : (s : ℕ) (ms r : List ℕ) → is_empty (compose_after t s ms r) ≡ false
  after-some = composing (λ s ms r out. is_empty out ≡ false) (record {
    ends = λ s ms. refl;
    taken = λ s ms c r h out e l. l;
    starts = λ s ms c r out z l. refl;
    stays = λ s ms c r out z l. l;
  })

  pub compose_empty : (d : List ℕ) → is_empty (compose t d) ≡ is_empty d
  compose_empty [] = rw compose_nil
  compose_empty (c ∷ r) = ⊎_elim (λ z. rw (compose_starter c r z) (after-some c [] r)) (λ z. rw (compose_mark c r z)) (starter_or_mark c)

  -- what holds of every codepoint of a text and of every result of a pair holds of every codepoint of the composed text
  module _ (P : ℕ → Type 0) (results : (a b h : ℕ) → pair t a b ≡ some h → P h) where
    after_every : (s : ℕ) (ms r : List ℕ) → P s → Every P ms → Every P r → Every P (compose_after t s ms r)
    after_every = composing (λ s ms r out. P s → Every P ms → Every P r → Every P out) (record {
      ends = λ s ms p q k. (p, q);
      taken = λ s ms c r h out e l p q k. l (results s c h (composed-pair s ms c h e).0) q k.1;
      starts = λ s ms c r out z l p q k. (p, every_append P ms out q (l k.0 tt k.1));
      stays = λ s ms c r out z l p q k. l p (every_append P ms (c ∷ []) q (k.0, tt)) k.1;
    })

    pub compose_every : (d : List ℕ) → Every P d → Every P (compose t d)
    compose_every [] h = rw compose_nil tt
    compose_every (c ∷ r) h =
        ⊎_elim (λ z. rw (compose_starter c r z) (after_every c [] r h.0 tt h.1)) (λ z. rw (compose_mark c r z) (h.0, compose_every r h.1)) (starter_or_mark c)

  -- every codepoint of a composed text stood in the text or is the result of a pair
  pub compose_from : (d : List ℕ) (y : ℕ) → mem y (compose t d) ≡ true → (mem y d ≡ true) ⊎ ((a : ℕ) × (b : ℕ) × (pair t a b ≡ some y))
  compose_from d y m =
      every_member From (compose t d) (compose_every From (λ a b h e. inr (a, b, e)) d (every_of_all From d (λ x k. inl (mem_of x d k)))) (member_of y (compose t d) m)
    where
      From : ℕ → Type 0
      From x = (mem x d ≡ true) ⊎ ((a : ℕ) × (b : ℕ) × (pair t a b ≡ some x))

  -- NFC is no longer than the full decomposition
  pub nfc-length : (s : List ℕ) → length (nfc t s) ≤ length (four_rounds t s)
  unfolding nfc nfd
  nfc-length s = omega (arith, compose-length (nfd t s), order-length t (four_rounds t s))

  -- NFC is empty for an empty text only
  pub nfc_empty : Shaped t → (s : List ℕ) → is_empty (nfc t s) ≡ is_empty s
  unfolding nfc nfd
  nfc_empty fit [] = refl
  nfc_empty fit (c ∷ s) =
      compose_empty (nfd t (c ∷ s)) ∙ not_empty (nfd t (c ∷ s)) (omega (arith, order-length t (four_rounds t (c ∷ s)), rounds-longer t fit (c ∷ s)))

  -- what holds of every codepoint of the full decomposition and of every result of a pair holds of every codepoint of NFC
  pub nfc_every : (P : ℕ → Type 0) → ((a b h : ℕ) → pair t a b ≡ some h → P h) → (s : List ℕ) → Every P (four_rounds t s) → Every P (nfc t s)
  unfolding nfc nfd
  nfc_every P results s h = compose_every P results (nfd t s) (order_every t P (four_rounds t s) h)
