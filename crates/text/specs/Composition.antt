-- Canonical composition (UAX 15; Unicode Standard D117) and NFC.
use Rattle.std.specs.Prelude.{ℕ, Bool, true, false, not, ◌&&◌, cond, List, [], ◌∷◌, ◌++◌, eqb, ltb}
use Rattle.std.proofs.Math.Option.{Option, none, some, map}
use Rattle.lists.specs.Lists.{all, first_with, keep, mem, on_some, same_list}
use Rattle.table.specs.Table.{Table, Headed}
use Rattle.text.specs.Hangul.{hangul_pair}
use Rattle.text.specs.Decomposition.{class_of}
use Rattle.text.specs.Ordering.{nfd}

abbrev pub is_two : List ℕ → Bool
is_two [] = false
is_two (a ∷ []) = false
is_two (a ∷ b ∷ []) = true
is_two (a ∷ b ∷ c ∷ r) = false

abbrev pub first_item : List ℕ → ℕ
first_item [] = 0
first_item (a ∷ r) = a

-- "Composition pairs are the two-item decompositions whose head isn't excluded and whose head and first item have class 0."
unfoldable pub is_pair : Table → Headed → Bool
unfolding class_of
is_pair t r =
    is_two r.items && not (mem r.head t.exclusions) && eqb (class_of t r.head) 0
    && eqb (class_of t (first_item r.items)) 0

-- the composition pairs, in the table's order
unfoldable pub pairs : Table → List Headed
unfolding is_pair
pairs t = keep (is_pair t) t.decompositions

-- the head of the first composition pair with these two items
unfoldable pub table_pair : Table → ℕ → ℕ → Option ℕ
unfolding pairs
table_pair t a b = map (λ (r : Headed). r.head) (first_with (λ (r : Headed). same_list r.items (a ∷ b ∷ [])) (pairs t))

-- what two codepoints compose to: Hangul "before any table entry", then the table's pairs
unfoldable pub pair : Table → ℕ → ℕ → Option ℕ
unfolding table_pair
pair t a b = on_some (hangul_pair a b) some (table_pair t a b)

-- c is not blocked from the starter by the non-starters ns between (D115): each has a class below that of c. So a starter composes with
-- the one before it only where nothing stands between.
abbrev pub unblocked : Table → List ℕ → ℕ → Bool
unblocked t ns c = all (λ n. ltb (class_of t n) (class_of t c)) ns

-- what c composes to with the starter s, if it is not blocked
abbrev pub composed : Table → ℕ → List ℕ → ℕ → Option ℕ
composed t s ns c = cond (unblocked t ns c) (pair t s c) none

-- The rest of a text: s is the last starter, as composed so far, and ns are the non-starters behind it that did not compose. c composes with
-- s if it can; else a starter becomes the last starter, and a non-starter joins ns.
unfoldable pub compose_after : Table → ℕ → List ℕ → List ℕ → List ℕ
unfolding class_of pair
compose_after t s ns [] = s ∷ ns
compose_after t s ns (c ∷ r) =
    let starts = s ∷ ns ++ compose_after t c [] r in
    let stays = compose_after t s (ns ++ c ∷ []) r in
    let alone = cond (eqb (class_of t c) 0) starts stays in
    on_some (composed t s ns c) (λ h. compose_after t h ns r) alone

-- composition of a decomposed text: non-starters before the first starter stay
unfoldable pub compose : Table → List ℕ → List ℕ
unfolding class_of compose_after
compose t [] = []
compose t (c ∷ r) =
    let starts = compose_after t c [] r in
    let stays = c ∷ compose t r in
    cond (eqb (class_of t c) 0) starts stays

-- NFC
unfoldable pub nfc : Table → List ℕ → List ℕ
unfolding nfd compose
nfc t s = compose t (nfd t s)
