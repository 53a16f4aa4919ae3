-- Rules 6 and 7, on decompositions. Each has a meaning of its own on any table.
use Rattle.std.specs.Prelude.{ℕ, Bool, false, not, ◌&&◌, ◌||◌, List, [], ◌∷◌, map, leb, ltb, eqb}
use Rattle.lists.specs.Lists.{all, distinct, distinct_lists, is_some, same_list}
use Rattle.table.specs.Table.{ClassRange, Headed, Table}
use Rattle.text.specs.Hangul.{is_syllable, is_jamo, hangul_pair}
use Rattle.text.specs.Decomposition.{round, four_rounds}
use Rattle.text.specs.Composition.{pairs}

-- "Four rounds decompose fully": a fifth round changes nothing
unfoldable pub decomposes_fully : Table → ℕ → Bool
unfolding round four_rounds
decomposes_fully t c = let s = four_rounds t (c ∷ []) in same_list (round t s) s

abbrev pub heads : Table → List ℕ
heads t = map (λ (r : Headed). r.head) t.decompositions

-- "no head is ASCII, a Hangul syllable or a jamo"
abbrev pub plain_head : ℕ → Bool
plain_head c = not (ltb c 0x80) && not (is_syllable c) && not (is_jamo c)

-- the entry holds a codepoint from a to b
abbrev pub meets : ClassRange → ℕ → ℕ → Bool
meets r a b = leb r.first b && leb a r.last

-- "no class entry gives a jamo or a syllable a class other than 0"
abbrev pub spares_hangul : ClassRange → Bool
spares_hangul r =
    eqb r.class 0
    || not (meets r 0x1100 0x1112) && not (meets r 0x1161 0x1175) && not (meets r 0x11A8 0x11C2) && not (meets r 0xAC00 0xD7A3)

-- Rule 6. Only heads and syllables decompose to anything but themselves, and a syllable's jamo are no heads, so the heads are asked.
unfoldable pub rule6 : Table → Bool
unfolding decomposes_fully
rule6 t =
    all (decomposes_fully t) (heads t) && distinct (heads t) && all plain_head (heads t) && all spares_hangul t.classes

-- the two items are a Hangul pair: a leading consonant and a vowel, or an open syllable and a trailing consonant
abbrev pub is_hangul_pair : List ℕ → Bool
is_hangul_pair [] = false
is_hangul_pair (a ∷ []) = false
is_hangul_pair (a ∷ b ∷ s) = is_some (hangul_pair a b)

-- the items of the composition pairs
abbrev pub pair_items : Table → List (List ℕ)
pair_items t = map (λ (r : Headed). r.items) (pairs t)

-- Rule 7: "No two composition pairs are equal, and none is a Hangul pair."
unfoldable pub rule7 : Table → Bool
unfolding pairs
rule7 t = distinct_lists (pair_items t) && all (λ s. not (is_hangul_pair s)) (pair_items t)
