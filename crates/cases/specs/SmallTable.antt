-- A small table of our own for the worked cases.
use Rattle.std.specs.Prelude.{ℕ, List, [], ◌∷◌, ◌++◌, length}
use Rattle.lists.specs.Lists.{joined}

-- "each led by the number of words in it"
abbrev pub section : List ℕ → List ℕ
section ws = length ws ∷ ws

-- valid
abbrev valid_words : List ℕ
valid_words = 0x24 ∷ 0x24 ∷ 0x2D ∷ 0x2D ∷ 0x30 ∷ 0x39 ∷ 0x5F ∷ 0x5F ∷ 0x61 ∷ 0x7A ∷ 0xE0 ∷ 0xE0 ∷ 0xE6 ∷ 0xE6 ∷ 0x300 ∷ 0x300 ∷ 0x303 ∷ 0x303 ∷ 0x3BE ∷ 0x3BE ∷ 0x3C4 ∷ 0x3C4 ∷ 0x442 ∷ 0x442 ∷ 0x445 ∷ 0x445 ∷ 0x4D5 ∷ 0x4D5 ∷ 0x1EBD ∷ 0x1EBD ∷ 0x2019 ∷ 0x2019 ∷ []

-- ignored: FE0E and FE0F
abbrev ignored_words : List ℕ
ignored_words = 0xFE0E ∷ 0xFE0F ∷ []

-- fenced: 2019
abbrev fenced_words : List ℕ
fenced_words = 0x2019 ∷ 0x2019 ∷ []

-- marks
abbrev mark_words : List ℕ
mark_words = 0x300 ∷ 0x303 ∷ []

-- NSM
abbrev nsm_words : List ℕ
nsm_words = 0x300 ∷ 0x303 ∷ []

-- mapped: 41, 45, 2010, 2122 to 74 6D, 39E
abbrev mapped_words : List ℕ
mapped_words = 0x41 ∷ 1 ∷ 0x61 ∷ 0x45 ∷ 1 ∷ 0x65 ∷ 0x2010 ∷ 1 ∷ 0x2D ∷ 0x2122 ∷ 2 ∷ 0x74 ∷ 0x6D ∷ 0x39E ∷ 1 ∷ 0x3BE ∷ []

-- decompositions: E0 and 1EBD
abbrev decomposition_words : List ℕ
decomposition_words = 0xE0 ∷ 2 ∷ 0x61 ∷ 0x300 ∷ 0x1EBD ∷ 2 ∷ 0x65 ∷ 0x303 ∷ []

-- emoji sequences: 1F4A9, 1F468, 2764, the family of 1F468 2764 1F468, keycap 1
abbrev emoji_words : List ℕ
emoji_words = 2 ∷ 0x1F4A9 ∷ 0xFE0F ∷ 2 ∷ 0x1F468 ∷ 0xFE0F ∷ 2 ∷ 0x2764 ∷ 0xFE0F ∷ 6 ∷ 0x1F468 ∷ 0x200D ∷ 0x2764 ∷ 0xFE0F ∷ 0x200D ∷ 0x1F468 ∷ 3 ∷ 0x31 ∷ 0xFE0F ∷ 0x20E3 ∷ []

-- exclusions: one record of no items
abbrev exclusion_words : List ℕ
exclusion_words = 0 ∷ []

-- classes: 300 to 303 have 230
abbrev class_words : List ℕ
class_words = 0x300 ∷ 0x303 ∷ 230 ∷ []

-- groups: Latin 0 with flags and what stands behind its pairs, Greek 1, Cyrillic 2, which are neither restricted nor whitelisted; all hold the digits
abbrev pub latin_with : ℕ → List ℕ → List ℕ
latin_with flags list =
    (flags ∷ 22 ∷ 0x24 ∷ 0x24 ∷ 0x2D ∷ 0x2D ∷ 0x30 ∷ 0x39 ∷ 0x5F ∷ 0x5F ∷ 0x61 ∷ 0x7A ∷ 0xE0 ∷ 0xE0 ∷ 0xE6 ∷ 0xE6 ∷ 0x300 ∷ 0x300 ∷ 0x303 ∷ 0x303 ∷ 0x1EBD ∷ 0x1EBD ∷ 0x2019 ∷ 0x2019 ∷ list)
    ++ (0 ∷ 8 ∷ 0x2D ∷ 0x2D ∷ 0x30 ∷ 0x39 ∷ 0x3BE ∷ 0x3BE ∷ 0x3C4 ∷ 0x3C4 ∷ 0 ∷ 8 ∷ 0x30 ∷ 0x39 ∷ 0x442 ∷ 0x442 ∷ 0x445 ∷ 0x445 ∷ 0x4D5 ∷ 0x4D5 ∷ [])

-- wholes: 445 looks like Latin 78, 442 like Greek 3C4, 4D5 like Latin E6
abbrev whole_words : List ℕ
whole_words = 1 ∷ 0x78 ∷ 1 ∷ 0x445 ∷ 1 ∷ 0x3C4 ∷ 1 ∷ 0x442 ∷ 1 ∷ 0xE6 ∷ 1 ∷ 0x4D5 ∷ []

-- should-escape: 200D, and FE0E to FE0F
abbrev escape_words : List ℕ
escape_words = 0x200D ∷ 0x200D ∷ 0xFE0E ∷ 0xFE0F ∷ []

-- the table with these groups
unfoldable pub table_with : List ℕ → List ℕ
table_with group_words =
    joined (section valid_words ∷ section ignored_words ∷ section fenced_words ∷ section mark_words ∷ section nsm_words ∷ section mapped_words ∷ section decomposition_words ∷ section emoji_words ∷ section exclusion_words ∷ section class_words ∷ section group_words ∷ section whole_words ∷ section escape_words ∷ section [] ∷ [])

-- Latin is neither restricted nor whitelisted
unfoldable pub small_table : List ℕ
unfolding table_with
small_table = table_with (latin_with 0 [])
