-- Decomposition before ordering, on any table: rounds go codepoint by codepoint, and how long they make a text.
use Rattle.std.specs.Prelude.{ℕ, ◌-◌, ◌*◌, ◌%◌, ◌≤◌, ◌≡◌, Bool, true, length, leb, eqb}
use Rattle.std.proofs.Common.{arith, sym, ap, ◌∙◌, leb-true}
use Rattle.std.proofs.Math.Path.{refl}
use mathlib.Core.List.{List, [], ◌∷◌, ◌++◌, append-nil}
use mathlib.Core.List.{Memᴰ}
use Rattle.std.proofs.Math.Option.{Option, none, some, map, get_or}
use Rattle.lists.specs.Lists.{all, first_with, joined_map}
use Rattle.lists.specs.Laws.{of_each, all_every, every_member, both_left, both_right, found_member, joined_append, joined-longer, joined_shorter}
use Rattle.table.specs.Table.{Table, Headed}
use Rattle.table.specs.Layout.{most_parts}
use Rattle.table.specs.Lookup.{items_of}
use Rattle.text.specs.Hangul.{is_syllable, jamo_of}
use Rattle.text.specs.Decomposition.{single, round, four_rounds}
use Rattle.text_laws.specs.Parsed.{Shaped, items_fit}

-- the four rounds of one codepoint
abbrev pub fully : Table → ℕ → List ℕ
fully t c = four_rounds t (c ∷ [])

module _ (t : Table) where
  pub round_append : (a b : List ℕ) → round t (a ++ b) ≡ round t a ++ round t b
  unfolding round
  round_append a b = joined_append (single t) a b

  pub round_nil : round t [] ≡ []
  unfolding round
  round_nil = refl

  pub round-one : (c : ℕ) → round t (c ∷ []) ≡ single t c
  unfolding round
  round-one c = append-nil (single t c)

  pub rounds_are : (s : List ℕ) → four_rounds t s ≡ round t (round t (round t (round t s)))
  unfolding four_rounds
  rounds_are s = refl

  -- a round before four is a round after four
  pub round_shift : (s : List ℕ) → four_rounds t (round t s) ≡ round t (four_rounds t s)
  round_shift s = rounds_are (round t s) ∙ ap (round t) (sym (rounds_are s))

  pub rounds_append : (a b : List ℕ) → four_rounds t (a ++ b) ≡ four_rounds t a ++ four_rounds t b
  unfolding four_rounds
  rounds_append a b =
      rw (round_append a b, round_append (round t a) (round t b), round_append (round t (round t a)) (round t (round t b)))
      (round_append (round t (round t (round t a))) (round t (round t (round t b))))

  pub rounds_nil : four_rounds t [] ≡ []
  unfolding four_rounds
  rounds_nil = refl

  pub rounds_cons : (c : ℕ) (s : List ℕ) → four_rounds t (c ∷ s) ≡ fully t c ++ four_rounds t s
  rounds_cons c s = rounds_append (c ∷ []) s

  -- the four rounds of a text are those of each codepoint
  pub rounds_each : (s : List ℕ) → four_rounds t s ≡ joined_map (fully t) s
  rounds_each [] = rounds_nil
  rounds_each (c ∷ s) = rounds_cons c s ∙ ap (λ (r : List ℕ). fully t c ++ r) (rounds_each s)

-- from 1 to 4
abbrev pub fits : List ℕ → Type 0
fits s = (1 ≤ length s) × (length s ≤ 4)

-- the items that are found, or the codepoint itself
items_fit_lem : (rs : List Headed) → all items_fit rs ≡ true → (c : ℕ) → fits (get_or (items_of rs c) (c ∷ []))
unfolding items_of
items_fit_lem rs h c = go (first_with at rs) (λ r e. (found_member at rs r e).0)
  where
    at : Headed → Bool
    at r = eqb r.head c

    go : (o : Option Headed) → ((r : Headed) → o ≡ some r → Memᴰ r rs) → fits (get_or (map (λ (r : Headed). r.items) o) (c ∷ []))
    go none m = (omega arith, omega arith)
    go (some r) m =
        let low = leb 1 (length r.items) in
        let high = leb (length r.items) most_parts in
        let f : items_fit r ≡ true = every_member (λ (q : Headed). items_fit q ≡ true) rs (all_every items_fit rs h) (m r refl) in
        (leb-true 1 (length r.items) (both_left low high f), leb-true (length r.items) most_parts (both_right low high f))

jamo_fit : (s : ℕ) → fits (jamo_of s)
jamo_fit s = of_each fits (eqb (s % 28) 0) _ _ (omega arith, omega arith) (omega arith, omega arith)

module _ (t : Table) (fit : Shaped t) where
  -- a single replacement gives from 1 to 4 codepoints
  pub single_fit : (c : ℕ) → fits (single t c)
  unfolding single
  single_fit c =
      of_each fits (is_syllable c) (jamo_of (c - 0xAC00)) (get_or (items_of t.decompositions c) (c ∷ [])) (jamo_fit (c - 0xAC00)) (items_fit_lem t.decompositions fit.items c)

  pub round-longer : (s : List ℕ) → length s ≤ length (round t s)
  unfolding round
  round-longer s = joined-longer (single t) (λ c. (single_fit c).0) s

  pub round_shorter : (s : List ℕ) → length (round t s) ≤ 4 * length s
  unfolding round
  round_shorter s = joined_shorter (single t) 4 (λ c. (single_fit c).1) s

  -- four rounds never make a text shorter
  pub rounds-longer : (s : List ℕ) → length s ≤ length (four_rounds t s)
  unfolding four_rounds
  rounds-longer s = omega (arith, round-longer s, round-longer (round t s), round-longer (round t (round t s)), round-longer (round t (round t (round t s))))

  -- four rounds make at most 256 of each codepoint
  pub rounds_shorter : (s : List ℕ) → length (four_rounds t s) ≤ 256 * length s
  unfolding four_rounds
  rounds_shorter s = omega (arith, round_shorter s, round_shorter (round t s), round_shorter (round t (round t s)), round_shorter (round t (round t (round t s))))
