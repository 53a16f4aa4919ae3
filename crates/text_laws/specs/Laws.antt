-- The laws of decomposition, canonical ordering, composition and NFC that hold on every table, as they are used above. `Shaped` is what
-- every table that was read from words keeps to. Proofs are in the files beside this one.
use Rattle.std.specs.Prelude.{ℕ, ◌≤◌, ◌<◌, ◌≡◌, Bool, true, List, [], ◌∷◌, ◌++◌, ◌⊎◌, length}
use Rattle.std.proofs.Common.{arith}
use Rattle.std.proofs.Math.Option.{some}
use Rattle.lists.specs.Lists.{all, count_with, is_empty, mem}
use Rattle.lists.specs.Laws.{Every}
use Rattle.table.specs.Table.{Table}
use Rattle.table.specs.Layout.{parse, the_table}
use Rattle.text.specs.Decomposition.{class_of, round, four_rounds}
use Rattle.text.specs.Ordering.{insert, order}
use Rattle.text.specs.Composition.{pair, compose, nfc}
use Rattle.text.specs.QuickCheck.{in_order, is_second}
use Rattle.text_laws.specs.Parsed.{Shaped, parsed_shaped, the_table_shaped}
use Rattle.text_laws.specs.Rounds
use Rattle.text_laws.specs.Insertion
use Rattle.text_laws.specs.Insertion.{Differs}
use Rattle.text_laws.specs.Runs
use Rattle.text_laws.specs.Runs.{sort_runs}
use Rattle.text_laws.specs.Exchange
use Rattle.text_laws.specs.Exchange.{Exchanges}
use Rattle.text_laws.specs.Pairing
use Rattle.text_laws.specs.Composing

-- Tables that were read from words: each decomposition has from 1 to 4 items, each class is at most 255.

pub parsed_tables : (ws : List ℕ) (t : Table) → parse ws ≡ some t → Shaped t
parsed_tables = parsed_shaped

pub all_tables : (ws : List ℕ) → Shaped (the_table ws)
all_tables = the_table_shaped

module _ (t : Table) where
  -- Decomposition before ordering.

  pub round_of_nothing : round t [] ≡ []
  round_of_nothing = Rounds.round_nil t

  pub round_of_both : (a b : List ℕ) → round t (a ++ b) ≡ round t a ++ round t b
  round_of_both = Rounds.round_append t

  pub rounds_of_nothing : four_rounds t [] ≡ []
  rounds_of_nothing = Rounds.rounds_nil t

  pub rounds_of_both : (a b : List ℕ) → four_rounds t (a ++ b) ≡ four_rounds t a ++ four_rounds t b
  rounds_of_both = Rounds.rounds_append t

  pub rounds_shorten_nothing : Shaped t → (s : List ℕ) → length s ≤ length (four_rounds t s)
  rounds_shorten_nothing = Rounds.rounds-longer t

  pub rounds-at_most_256 : Shaped t → (c : ℕ) → length (four_rounds t (c ∷ [])) ≤ 256
  rounds-at_most_256 fit c = omega (arith, Rounds.rounds_shorter t fit (c ∷ []))

  -- Canonical ordering.

  -- it rearranges: as many codepoints pass a test after it as before it
  pub ordering_counts : (p : ℕ → Bool) (s : List ℕ) → count_with p (order t s) ≡ count_with p s
  ordering_counts = Insertion.order_count t

  pub ordering_length : (s : List ℕ) → length (order t s) ≡ length s
  ordering_length = Insertion.order-length t

  pub ordering_all : (p : ℕ → Bool) (s : List ℕ) → all p (order t s) ≡ all p s
  ordering_all = Insertion.order-all t

  pub ordering_every : (P : ℕ → Type 0) (s : List ℕ) → Every P s → Every P (order t s)
  ordering_every = Insertion.order_every t

  pub ordering_orders : (s : List ℕ) → in_order t (order t s) ≡ true
  ordering_orders = Insertion.order_ordered t

  pub ordered_stays : (s : List ℕ) → in_order t s ≡ true → order t s ≡ s
  ordered_stays = Insertion.order_same t

  -- Unicode Standard, D109: it is reached by exchanging neighbours out of order, and whatever exchanges are made, where none is left
  -- the text is the same.
  pub ordering_by_exchanges : (s : List ℕ) → Exchanges t s (order t s)
  ordering_by_exchanges = Exchange.order_exchanges t

  pub exchanges_end_alike : (s r : List ℕ) → Exchanges t s r → in_order t r ≡ true → r ≡ order t s
  exchanges_end_alike s r e h = Exchange.exchanged_ordered t e h

  -- it sorts each run of codepoints with a class other than 0 by class, stably, and moves no others
  pub ordering_sorts_runs : Shaped t → (s : List ℕ) → order t s ≡ sort_runs t s
  ordering_sorts_runs = Runs.order_sorts t

  pub insertions_commute : (a b : ℕ) → 0 < class_of t a → 0 < class_of t b → (class_of t a ≡ class_of t b → ⊥) → (s : List ℕ)
      → insert t a (insert t b s) ≡ insert t b (insert t a s)
  insertions_commute = Insertion.insert_commute t

  pub marks_exchange : (xs : List ℕ) (a b : ℕ) (ys : List ℕ) → 0 < class_of t a → 0 < class_of t b → (class_of t a ≡ class_of t b → ⊥)
      → order t (xs ++ a ∷ b ∷ ys) ≡ order t (xs ++ b ∷ a ∷ ys)
  marks_exchange = Insertion.order_swap t

  -- `Differs t c m`: m has a class other than 0 and other than that of c
  pub mark_moves_behind : (xs : List ℕ) (c : ℕ) (ms ys : List ℕ) → 0 < class_of t c → Every (Differs t c) ms
      → order t (xs ++ c ∷ (ms ++ ys)) ≡ order t (xs ++ (ms ++ c ∷ ys))
  mark_moves_behind = Insertion.order-behind t

  pub starter_is_barrier : (xs : List ℕ) (b : ℕ) (ys : List ℕ) → class_of t b ≡ 0 → order t (xs ++ b ∷ ys) ≡ order t xs ++ b ∷ order t ys
  starter_is_barrier = Insertion.order_barrier t

  pub front_first : (xs ys : List ℕ) → order t (order t xs ++ ys) ≡ order t (xs ++ ys)
  front_first = Insertion.order_front t

  pub back_first : (xs ys : List ℕ) → order t (xs ++ order t ys) ≡ order t (xs ++ ys)
  back_first = Insertion.order_back t

  -- Composition.

  pub pair_is_starter : (a b h : ℕ) → pair t a b ≡ some h → class_of t h ≡ 0
  pair_is_starter = Pairing.pair_starts t

  -- a codepoint composes with one before it only if it is a second item
  pub pair-has-second : (a b h : ℕ) → pair t a b ≡ some h → is_second t b ≡ true
  pair-has-second = Pairing.pair-second t

  pub composition_source : (d : List ℕ) (y : ℕ) → mem y (compose t d) ≡ true → (mem y d ≡ true) ⊎ ((a : ℕ) × (b : ℕ) × (pair t a b ≡ some y))
  composition_source = Composing.compose_from t

  pub composition_length : (d : List ℕ) → length (compose t d) ≤ length d
  composition_length = Composing.compose-length t

  pub composition_empty : (d : List ℕ) → is_empty (compose t d) ≡ is_empty d
  composition_empty = Composing.compose_empty t

  pub nfc-length : (s : List ℕ) → length (nfc t s) ≤ length (four_rounds t s)
  nfc-length = Composing.nfc-length t

  pub nfc_empty : Shaped t → (s : List ℕ) → is_empty (nfc t s) ≡ is_empty s
  nfc_empty = Composing.nfc_empty t
