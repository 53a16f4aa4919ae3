-- Rule 8, on the quick-check set. 02, Item 11: "if it isn't empty, it holds every codepoint that isn't its own NFC and every one whose full
-- decomposition starts with the second item of a composition pair, Hangul included."
use Rattle.std.specs.Prelude.{ℕ, ◌+◌, ◌-◌, ◌*◌, Bool, not, ◌&&◌, ◌||◌, List, [], ◌∷◌, ◌++◌, map}
use Rattle.lists.specs.Lists.{all, is_empty, joined_map, keep, same_list}
use Rattle.table.specs.Table.{Headed, Table}
use Rattle.table.specs.Lookup.{in_quick_check}
use Rattle.text.specs.Hangul.{first_syllable}
use Rattle.text.specs.Ordering.{nfd}
use Rattle.text.specs.Composition.{first_item, pairs, nfc}
use Rattle.text.specs.QuickCheck.{second_item, is_second}
use Rattle.soundness.specs.Valid.{counted_from}
use Rattle.soundness.specs.Pairs.{heads}

-- what rule 8 asks of one codepoint: it is in the set, or is its own NFC and its full decomposition starts with no second item
unfoldable pub passes8 : Table → ℕ → Bool
unfolding nfd nfc is_second
passes8 t c = in_quick_check t c || same_list (nfc t (c ∷ [])) (c ∷ []) && not (is_second t (first_item (nfd t (c ∷ []))))

-- the second items of the table's composition pairs
unfoldable pub second_items : Table → List ℕ
unfolding pairs
second_items t = map (λ (r : Headed). second_item r.items) (pairs t)

-- the 588 syllables of a leading consonant
unfoldable pub syllables_of : ℕ → List ℕ
unfolding counted_from
syllables_of l = counted_from (first_syllable + (l - 0x1100) * 588) 588

-- the syllables whose leading consonant is a second item
unfoldable pub second_syllables : Table → List ℕ
unfolding counted_from syllables_of is_second
second_syllables t = joined_map syllables_of (keep (is_second t) (counted_from 0x1100 19))

-- the vowels and the trailing consonants: second items of Hangul's pairs
abbrev pub vowels : List ℕ
vowels = counted_from 0x1161 21

abbrev pub trailings : List ℕ
trailings = counted_from 0x11A8 27

-- The codepoints that the rule can concern. Any other is its own full decomposition and no second item, or a syllable that starts with none:
-- it passes, where rule 6 holds.
unfoldable pub concerned : Table → List ℕ
unfolding counted_from second_items second_syllables
concerned t = vowels ++ trailings ++ second_syllables t ++ second_items t ++ heads t

-- Rule 8
unfoldable pub rule8 : Table → Bool
unfolding passes8 concerned
rule8 t = is_empty t.quick_check || all (passes8 t) (concerned t)
