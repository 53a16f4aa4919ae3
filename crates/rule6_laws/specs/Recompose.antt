-- On a table that keeps rule 6, decomposing what was composed gives the decomposition back, so that NFC twice is NFC.
use Rattle.std.specs.Prelude.{ℕ, ◌<◌, ◌≡◌, refl, true, ltb}
use Rattle.std.proofs.Common.{arith, ◌∙◌, ⊎_elim, ltb-true}
use Rattle.std.proofs.Math.Path.{sym, ap}
use mathlib.Core.List.{List, [], ◌∷◌, ◌++◌, append-nil, append_assoc}
use Rattle.std.proofs.Math.Option.{some}
use Rattle.std.proofs.Math.ListN.{length}
use Rattle.lists.specs.Laws.{Every, every_append, every_imp, all_every}
use Rattle.table.specs.Table.{Table}
use Rattle.text.specs.Decomposition.{class_of, four_rounds}
use Rattle.text.specs.Ordering.{order, nfd}
use Rattle.text.specs.Composition.{unblocked, composed, compose_after, compose, nfc}
use Rattle.text.specs.QuickCheck.{in_order}
use Rattle.text_laws.specs.Parsed.{Shaped}
use Rattle.text_laws.specs.Rounds.{fully, rounds_append, rounds_cons, rounds_nil}
use Rattle.text_laws.specs.Insertion.{Differs, order-behind, order_every, order-length, order_ordered, order_same}
use Rattle.text_laws.specs.Composing.{composing, composed-pair, compose_nil, compose_starter, compose_mark, starter_or_mark}
use Rattle.rule6_laws.specs.Stable.{Rule6, Stable, fully-one, rounds_stable, rounds-all_stable}
use Rattle.rule6_laws.specs.PairLaws.{pair_splits}

regroup : (a b c d : List ℕ) → a ++ (b ++ c) ++ d ≡ a ++ (b ++ (c ++ d))
regroup a b c d = simp append_assoc

module _ (t : Table) where
  -- c may be moved behind the marks that do not block it
  past-marks : (xs : List ℕ) (c : ℕ) (ms ys : List ℕ) → Every (λ m. 0 < class_of t m) ms → unblocked t ms c ≡ true
      → order t (xs ++ c ∷ (ms ++ ys)) ≡ order t (xs ++ (ms ++ c ∷ ys))
  past-marks xs c [] ys h u = refl
  past-marks xs c (m ∷ ms) ys h u =
      let lower : Every (λ x. class_of t x < class_of t c) (m ∷ ms) = every_imp (m ∷ ms) (λ x e. ltb-true (class_of t x) (class_of t c) e) (all_every (λ x. ltb (class_of t x) (class_of t c)) (m ∷ ms) u) in
      order-behind t xs c (m ∷ ms) ys (omega arith) (differs (m ∷ ms) h lower)
    where
      differs : (s : List ℕ) → Every (λ x. 0 < class_of t x) s → Every (λ x. class_of t x < class_of t c) s → Every (Differs t c) s
      differs [] p q = tt
      differs (x ∷ s) p q = ((p.0, λ e. omega arith), differs s p.1 q.1)

module _ (t : Table) (r6 : Rule6 t) where
  -- what composition behind a starter leaves to be ordered, with any text before it
  abbrev Back : ℕ → List ℕ → List ℕ → List ℕ → Type 0
  Back s ms r out =
      Every (Stable t) ms → Every (λ m. 0 < class_of t m) ms → Every (Stable t) r → (xs : List ℕ)
      → order t (xs ++ four_rounds t out) ≡ order t (xs ++ (fully t s ++ (ms ++ r)))

  back_ends : (s : ℕ) (ms : List ℕ) → Back s ms [] (s ∷ ms)
  back_ends s ms hm km hr xs = rw (rounds_cons t s ms, rounds_stable t ms hm, append-nil ms)

  back_taken : (s : ℕ) (ms : List ℕ) (c : ℕ) (r : List ℕ) (h : ℕ) (out : List ℕ) → composed t s ms c ≡ some h → Back h ms r out → Back s ms (c ∷ r) out
  back_taken s ms c r h out e f hm km hr xs =
      let p = composed-pair t s ms c h e in
      let split : fully t h ≡ fully t s ++ (c ∷ []) = pair_splits t r6 s c h p.0 ∙ rw (fully-one t c hr.0) in
      let one : order t (xs ++ four_rounds t out) ≡ order t (xs ++ (fully t h ++ (ms ++ r))) = f hm km hr.1 xs in
      let two : order t (xs ++ (fully t h ++ (ms ++ r))) ≡ order t ((xs ++ fully t s) ++ c ∷ (ms ++ r)) = rw (split, append_assoc (fully t s) (c ∷ []) (ms ++ r), append_assoc xs (fully t s) (c ∷ (ms ++ r))) in
      let three : order t ((xs ++ fully t s) ++ c ∷ (ms ++ r)) ≡ order t ((xs ++ fully t s) ++ (ms ++ c ∷ r)) = past-marks t (xs ++ fully t s) c ms r km p.1 in
      one ∙ two ∙ three ∙ rw (append_assoc xs (fully t s) (ms ++ c ∷ r))

  back_starts : (s : ℕ) (ms : List ℕ) (c : ℕ) (r out : List ℕ) → class_of t c ≡ 0 → Back c [] r out → Back s ms (c ∷ r) (s ∷ ms ++ out)
  back_starts s ms c r out z f hm km hr xs =
      let one : order t ((xs ++ (fully t s ++ ms)) ++ four_rounds t out) ≡ order t ((xs ++ (fully t s ++ ms)) ++ (fully t c ++ r)) = f tt tt hr.1 (xs ++ (fully t s ++ ms)) in
      let out-is : four_rounds t (s ∷ ms ++ out) ≡ fully t s ++ (ms ++ four_rounds t out) = rounds_cons t s (ms ++ out) ∙ rw (rounds_append t ms out, rounds_stable t ms hm) in
      let left : xs ++ four_rounds t (s ∷ ms ++ out) ≡ (xs ++ (fully t s ++ ms)) ++ four_rounds t out = rw out-is (sym (regroup xs (fully t s) ms (four_rounds t out))) in
      let right : (xs ++ (fully t s ++ ms)) ++ (fully t c ++ r) ≡ xs ++ (fully t s ++ (ms ++ c ∷ r)) = rw (fully-one t c hr.0) (regroup xs (fully t s) ms (c ∷ r)) in
      ap (order t) left ∙ one ∙ ap (order t) right

  back_stays : (s : ℕ) (ms : List ℕ) (c : ℕ) (r out : List ℕ) → 0 < class_of t c → Back s (ms ++ c ∷ []) r out → Back s ms (c ∷ r) out
  back_stays s ms c r out z f hm km hr xs =
      f (every_append (Stable t) ms (c ∷ []) hm (hr.0, tt)) (every_append (λ m. 0 < class_of t m) ms (c ∷ []) km (z, tt)) hr.1 xs
      ∙ rw (append_assoc ms (c ∷ []) r)

  -- decomposing what was composed behind a starter
  pub after_back : (s : ℕ) (ms r : List ℕ) → Back s ms r (compose_after t s ms r)
  after_back = composing t Back (record { ends = back_ends; taken = back_taken; starts = back_starts; stays = back_stays })

  -- decomposing what was composed, with any text before it
  pub compose_back : (d : List ℕ) → Every (Stable t) d → (xs : List ℕ) → order t (xs ++ four_rounds t (compose t d)) ≡ order t (xs ++ d)
  compose_back [] h xs = rw (compose_nil t, rounds_nil t)
  compose_back (c ∷ r) h xs = ⊎_elim starter (λ z. mark z (compose_back r h.1 (xs ++ c ∷ []))) (starter_or_mark t c)
    where
      one : fully t c ≡ c ∷ []
      one = fully-one t c h.0

      starter : class_of t c ≡ 0 → order t (xs ++ four_rounds t (compose t (c ∷ r))) ≡ order t (xs ++ c ∷ r)
      starter z = rw (compose_starter t c r z) (after_back c [] r tt tt h.1 xs ∙ rw one)

      mark : 0 < class_of t c → order t ((xs ++ c ∷ []) ++ four_rounds t (compose t r)) ≡ order t ((xs ++ c ∷ []) ++ r) → order t (xs ++ four_rounds t (compose t (c ∷ r))) ≡ order t (xs ++ c ∷ r)
      mark z e =
          rw (compose_mark t c r z, rounds_cons t c (compose t r), one) (rw (append_assoc xs (c ∷ []) (four_rounds t (compose t r)), append_assoc xs (c ∷ []) r) at e)

  -- decomposing a composition gives the ordered decomposition back
  pub nfd-compose : (d : List ℕ) → Every (Stable t) d → nfd t (compose t d) ≡ order t d
  unfolding nfd
  nfd-compose d h = compose_back d h []

-- where each record has an item, too
module _ (t : Table) (fit : Shaped t) (r6 : Rule6 t) where
  -- a full decomposition is stable and ordered
  pub nfd_stable : (s : List ℕ) → Every (Stable t) (nfd t s)
  unfolding nfd
  nfd_stable s = order_every t (Stable t) (four_rounds t s) (rounds-all_stable t fit r6 s)

  pub nfd_ordered : (s : List ℕ) → in_order t (nfd t s) ≡ true
  unfolding nfd
  nfd_ordered s = order_ordered t (four_rounds t s)

  -- NFC has the same full decomposition
  pub nfd-nfc : (s : List ℕ) → nfd t (nfc t s) ≡ nfd t s
  unfolding nfc
  nfd-nfc s = nfd-compose t r6 (nfd t s) (nfd_stable s) ∙ order_same t (nfd t s) (nfd_ordered s)

  -- and a full decomposition of the same length
  pub rounds-nfc : (s : List ℕ) → length (four_rounds t (nfc t s)) ≡ length (four_rounds t s)
  unfolding nfd
  rounds-nfc s = sym (order-length t (four_rounds t (nfc t s))) ∙ ap length (nfd-nfc s) ∙ order-length t (four_rounds t s)

  pub nfd-twice : (s : List ℕ) → nfd t (nfd t s) ≡ nfd t s
  unfolding nfd
  nfd-twice s = ap (order t) (rounds_stable t (nfd t s) (nfd_stable s)) ∙ order_same t (nfd t s) (nfd_ordered s)

  -- NFC twice is NFC
  pub nfc-twice : (s : List ℕ) → nfc t (nfc t s) ≡ nfc t s
  unfolding nfc
  nfc-twice s = ap (compose t) (nfd-nfc s)
