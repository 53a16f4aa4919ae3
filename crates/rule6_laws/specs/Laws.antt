-- The laws of decomposition, composition and NFC on tables that keep rule 6 of soundness, as they are used above. Proofs are in the files
-- beside this one.
use Rattle.std.specs.Prelude.{ℕ, ◌≤◌, ◌<◌, ◌≡◌, true, List, [], ◌∷◌, ◌++◌, length}
use Rattle.std.proofs.Math.Option.{some}
use Rattle.lists.specs.Laws.{Every}
use Rattle.table.specs.Table.{Table}
use Rattle.text.specs.Decomposition.{single, four_rounds}
use Rattle.text.specs.Ordering.{order, nfd}
use Rattle.text.specs.Composition.{pair, compose, nfc}
use Rattle.soundness.specs.Pairs.{rule6}
use Rattle.text_laws.specs.Parsed.{Shaped}
use Rattle.rule6_laws.specs.Stable
use Rattle.rule6_laws.specs.Stable.{Stable, rule6_parts}
use Rattle.rule6_laws.specs.PairLaws
use Rattle.rule6_laws.specs.Recompose

-- Tables that keep rule 6. `Stable t c`: c decomposes no further, single t c ≡ c ∷ [].
module _ (t : Table) (r6 : rule6 t ≡ true) where
  pub single-first : (c : ℕ) → four_rounds t (c ∷ []) ≡ four_rounds t (single t c)
  single-first = Stable.fully-single t (rule6_parts t r6)

  pub ascii-is_stable : (c : ℕ) → c < 0x80 → Stable t c
  ascii-is_stable = Stable.ascii_stable t (rule6_parts t r6)

  pub pair_decomposes : (a b h : ℕ) → pair t a b ≡ some h → four_rounds t (h ∷ []) ≡ four_rounds t (a ∷ []) ++ four_rounds t (b ∷ [])
  pair_decomposes = PairLaws.pair_splits t (rule6_parts t r6)

  pub pair_is_not_ascii : (a b h : ℕ) → pair t a b ≡ some h → 0x80 ≤ h
  pair_is_not_ascii = PairLaws.pair_high t (rule6_parts t r6)

  -- decomposing a composition gives the ordered decomposition back
  pub decompose_composed : (d : List ℕ) → Every (Stable t) d → nfd t (compose t d) ≡ order t d
  decompose_composed = Recompose.nfd-compose t (rule6_parts t r6)

-- Tables that were read from words and keep rule 6.
module _ (t : Table) (fit : Shaped t) (r6 : rule6 t ≡ true) where
  pub rounds_are_stable : (s : List ℕ) → Every (Stable t) (four_rounds t s)
  rounds_are_stable = Stable.rounds-all_stable t fit (rule6_parts t r6)

  pub rounds-twice : (s : List ℕ) → four_rounds t (four_rounds t s) ≡ four_rounds t s
  rounds-twice = Stable.rounds-twice t fit (rule6_parts t r6)

  pub nfd-twice : (s : List ℕ) → nfd t (nfd t s) ≡ nfd t s
  nfd-twice = Recompose.nfd-twice t fit (rule6_parts t r6)

  pub nfd_of_nfc : (s : List ℕ) → nfd t (nfc t s) ≡ nfd t s
  nfd_of_nfc = Recompose.nfd-nfc t fit (rule6_parts t r6)

  pub rounds_of_nfc : (s : List ℕ) → length (four_rounds t (nfc t s)) ≡ length (four_rounds t s)
  rounds_of_nfc = Recompose.rounds-nfc t fit (rule6_parts t r6)

  pub nfc-twice : (s : List ℕ) → nfc t (nfc t s) ≡ nfc t s
  nfc-twice = Recompose.nfc-twice t fit (rule6_parts t r6)
