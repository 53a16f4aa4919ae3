-- A codepoint that is its own NFC, on any table: a mark is its own full decomposition, and the full decomposition of a starter is a starter
-- that takes in all that follows, one by one.
use Rattle.std.specs.Prelude.{ℕ, suc, ◌≤◌, ◌<◌, ◌≡◌, ◌⊎◌, length}
use Rattle.std.proofs.Common.{arith, sym, ap, ◌∙◌, inl, inr, length-append}
use Rattle.std.proofs.Math.Path.{refl}
use Rattle.std.proofs.lemmas.Bool.{false≢true}
use mathlib.Core.List.{List, [], ◌∷◌, tail-eq_of_cons-eq, head-eq_of_cons-eq}
use Rattle.std.proofs.Math.Logic.{⊎_elim}
use Rattle.std.proofs.Math.Option.{Option, none, some}
use Rattle.lists.specs.Lists.{is_empty}
use Rattle.table.specs.Table.{Table}
use Rattle.text.specs.Decomposition.{class_of}
use Rattle.text.specs.Ordering.{nfd}
use Rattle.text.specs.Composition.{pair, compose_after, compose, nfc}
use Rattle.text_laws.specs.Pairing.{pair_starts}
use Rattle.text_laws.specs.Composing.{composing, after_nil, after-taken, after_starts, after_stays, compose_nil, compose_starter, compose_mark, compose_empty, starter_or_mark}

module _ (t : Table) where
  -- the starter s takes in each of r in turn and is c at the end
  abbrev pub Takes : ℕ → List ℕ → ℕ → Type 0
  Takes s [] c = s ≡ c
  Takes s (x ∷ r) c = (h : ℕ) × (pair t s x ≡ some h) × Takes h r c

  -- what stays behind a starter is in the composed text
  kept-behind : (s : ℕ) (ms r : List ℕ) → suc (length ms) ≤ length (compose_after t s ms r)
  kept-behind = composing t (λ s ms r out. suc (length ms) ≤ length out) (record {
    ends = λ s ms. omega arith;
    taken = λ s ms c r h out e l. l;
    starts = λ s ms c r out z l. simp length-append (omega arith);
    stays = λ s ms c r out z l. omega (arith, length-append ms (c ∷ []));
  })

  -- where a starter and what follows it become one codepoint, all was taken in
  pub all-taken : (s : ℕ) (r : List ℕ) (c : ℕ) → compose_after t s [] r ≡ c ∷ [] → Takes s r c
  all-taken s [] c e = head-eq_of_cons-eq (sym (after_nil t s []) ∙ e)
  all-taken s (x ∷ r) c e = go (pair t s x) refl (starter_or_mark t x) (λ h. all-taken h r c)
    where
      one : length (compose_after t s [] (x ∷ r)) ≡ 1
      one = ap length e

      go : (o : Option ℕ) → pair t s x ≡ o → (class_of t x ≡ 0) ⊎ (0 < class_of t x) → ((h : ℕ) → compose_after t h [] r ≡ c ∷ [] → Takes h r c) → Takes s (x ∷ r) c
      go (some h) p k below = (h, p, below h (sym (after-taken t s [] x r h p) ∙ e))
      go none p (inl z) below =
          let n : length (s ∷ compose_after t x [] r) ≡ 1 = ap length (sym (after_starts t s [] x r p z)) ∙ one in
          absurd (omega (arith, kept-behind x [] r))
      go none p (inr z) below =
          let n : length (compose_after t s (x ∷ []) r) ≡ 1 = ap length (sym (after_stays t s [] x r p z)) ∙ one in
          absurd (omega (arith, kept-behind s (x ∷ []) r))

  -- what a starter becomes is a starter
  pub taken_starter : (s : ℕ) (r : List ℕ) (c : ℕ) → class_of t s ≡ 0 → Takes s r c → class_of t c ≡ 0
  taken_starter s [] c z f = rw (← f) z
  taken_starter s (x ∷ r) c z f = taken_starter f.0 r c (pair_starts t s x f.0 f.1) f.2

  -- the full decomposition of a starter that is its own NFC
  pub record Whole (c : ℕ) (d : List ℕ) : Type 0 where
    pub first : ℕ
    pub rest : List ℕ
    pub is : d ≡ first ∷ rest
    pub starter : class_of t first ≡ 0
    pub takes : Takes first rest c

  empty_list : (d : List ℕ) → compose t d ≡ [] → d ≡ []
  empty_list [] e = refl
  empty_list (x ∷ r) e = absurd (false≢true (sym (compose_empty t (x ∷ r)) ∙ ap is_empty e))

  -- a text that is composed to one codepoint
  pub one-composed : (c : ℕ) (d : List ℕ) → compose t d ≡ c ∷ [] → (d ≡ c ∷ []) ⊎ Whole c d
  one-composed c [] e = absurd (omega (arith, ap length (sym (compose_nil t) ∙ e)))
  one-composed c (x ∷ r) e = ⊎_elim starts stays (starter_or_mark t x)
    where
      starts : class_of t x ≡ 0 → (x ∷ r ≡ c ∷ []) ⊎ Whole c (x ∷ r)
      starts z = inr (record { first = x; rest = r; is = refl; starter = z; takes = all-taken x r c (sym (compose_starter t x r z) ∙ e) })

      stays : 0 < class_of t x → (x ∷ r ≡ c ∷ []) ⊎ Whole c (x ∷ r)
      stays z =
          let f : x ∷ compose t r ≡ c ∷ [] = sym (compose_mark t x r z) ∙ e in
          let q : r ≡ [] = empty_list r (tail-eq_of_cons-eq f) in
          inl (rw (head-eq_of_cons-eq f, q))

  -- a mark that is its own NFC is its own full decomposition
  pub own_mark : (c : ℕ) → 0 < class_of t c → nfc t (c ∷ []) ≡ c ∷ [] → nfd t (c ∷ []) ≡ c ∷ []
  unfolding nfc
  own_mark c z e = ⊎_elim (λ q. q) (λ (w : Whole c (nfd t (c ∷ []))). absurd (omega (arith, taken_starter w.first w.rest c w.starter w.takes))) (one-composed c (nfd t (c ∷ [])) e)

  -- the full decomposition of a starter that is its own NFC
  pub own_starter : (c : ℕ) → class_of t c ≡ 0 → nfc t (c ∷ []) ≡ c ∷ [] → Whole c (nfd t (c ∷ []))
  unfolding nfc
  own_starter c z e = ⊎_elim (λ q. record { first = c; rest = []; is = q; starter = z; takes = refl }) (λ w. w) (one-composed c (nfd t (c ∷ [])) e)
