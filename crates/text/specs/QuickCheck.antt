-- The quick check for NFC (UAX 15). 02, Item 11: "text that needs no NFC is left as it is".
use Rattle.std.specs.Prelude.{ℕ, ◌≡◌, Bool, true, false, not, ◌&&◌, ◌||◌, List, [], ◌∷◌, eqb}
use Rattle.lists.specs.Lists.{any}
use Rattle.table.specs.Table.{Table, Headed}
use Rattle.text.specs.Hangul.{is_vowel, is_trailing}
use Rattle.text.specs.Ordering.{out_of_order, nfd}
use Rattle.text.specs.Composition.{first_item, pairs, nfc}

-- "UAX 15 also asks that classes stand in order": no two neighbours are out of order
unfoldable pub in_order : Table → List ℕ → Bool
in_order t [] = true
in_order t (c ∷ []) = true
in_order t (c ∷ d ∷ s) = not (out_of_order t c d) && in_order t (d ∷ s)

-- the second of some items, 0 where there is none
abbrev pub second_item : List ℕ → ℕ
second_item [] = 0
second_item (a ∷ []) = 0
second_item (a ∷ b ∷ r) = b

-- "the second item of a composition pair, Hangul included"
unfoldable pub is_second : Table → ℕ → Bool
unfolding pairs
is_second t x = is_vowel x || is_trailing x || any (λ (r : Headed). eqb (second_item r.items) x) (pairs t)

-- What rule 8 asks of a quick-check set that isn't empty, said of the codepoints outside it: "it holds every codepoint that isn't its own
-- NFC and every one whose full decomposition starts with the second item of a composition pair, Hangul included."
pub record Quick (t : Table) (outside : ℕ → Bool) : Type 0 where
  pub own : (c : ℕ) → outside c ≡ true → nfc t (c ∷ []) ≡ c ∷ []
  pub start : (c : ℕ) → outside c ≡ true → is_second t (first_item (nfd t (c ∷ []))) ≡ false
