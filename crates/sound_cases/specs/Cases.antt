-- For each clause of each rule of the soundness check a closed table that breaks it, and sound tables beside them.
use Rattle.std.specs.Prelude.{ℕ, zero, suc, ◌≡◌, refl, Bool, not, cond, List, [], ◌∷◌, ◌++◌, map}
use Rattle.std.proofs.Math.Option.{Option, none, some}
use Rattle.lists.specs.Lists.{joined_map}
use Rattle.table.specs.Table.{Table}
use Rattle.table.specs.Layout.{the_table}
use Rattle.soundness.specs.Scalars.{rule1}
use Rattle.soundness.specs.Valid.{rule2, rule3}
use Rattle.soundness.specs.Sequences.{rule4, rule5}
use Rattle.soundness.specs.Pairs.{rule6, rule7}
use Rattle.soundness.specs.QuickCheck.{rule8}
use Rattle.soundness.specs.Soundness.{soundness_of}
use Rattle.sound_cases.specs.Tables.{Filled, ◌≔◌, table_words, valid, ignored, fenced, marks, nsm, mapped, decompositions, emoji}
use Rattle.sound_cases.specs.Tables.{exclusions, classes, groups, wholes, escape, quick_check}

-- a table, and the rules that it breaks, all of them in order
pub record Case : Type 0 where
  pub broken : List ℕ
  pub table : List Filled

infix 75 ◌breaks◌
abbrev ◌breaks◌ : List Filled → List ℕ → Case
fs breaks ns = record { broken = ns; table = fs }

abbrev one : ℕ → List ℕ
one n = n ∷ []

-- a codepoint that is valid and in a group
abbrev letter : ℕ → List Filled
letter c = valid ≔ (c ∷ c ∷ []) ∷ groups ≔ (0 ∷ 2 ∷ c ∷ c ∷ []) ∷ []

-- a quick-check set of the vowels, the trailing consonants and some more
abbrev set_with : List ℕ → List Filled
set_with ws = quick_check ≔ (0x1161 ∷ 0x1175 ∷ 0x11A8 ∷ 0x11C2 ∷ ws) ∷ []

-- records: n codepoints from c on, each to the next one; and each of some codepoints to 61
abbrev chain : ℕ → ℕ → List ℕ
chain c zero = []
chain c (suc n) = c ∷ 1 ∷ suc c ∷ chain (suc c) n

abbrev each_61 : List ℕ → List ℕ
each_61 cs = joined_map (λ c. c ∷ 1 ∷ 0x61 ∷ []) cs

-- Rule 1, "Every codepoint named, those inside pairs and triples included, is a Unicode scalar value": for each place where one is named.
-- What is valid or in a group breaks rule 2 as well, what is mapped to rule 3.
unfoldable pub rule1_cases : List Case
rule1_cases =
    (valid ≔ (0xD800 ∷ 0xD800 ∷ []) ∷ []) breaks (1 ∷ 2 ∷ [])
    ∷ (groups ≔ (0 ∷ 2 ∷ 0xD800 ∷ 0xD800 ∷ []) ∷ []) breaks (1 ∷ 2 ∷ [])
    ∷ (ignored ≔ (0xD800 ∷ 0xD800 ∷ []) ∷ []) breaks one 1
    ∷ (fenced ≔ (0xDFFF ∷ 0xDFFF ∷ []) ∷ []) breaks one 1
    ∷ (marks ≔ (0x110000 ∷ 0x110000 ∷ []) ∷ []) breaks one 1
    ∷ (nsm ≔ (0x10FFFF ∷ 0x110000 ∷ []) ∷ []) breaks one 1
    ∷ (letter 0x61 ++ mapped ≔ (0xD800 ∷ 1 ∷ 0x61 ∷ []) ∷ []) breaks one 1
    ∷ (mapped ≔ (0x41 ∷ 1 ∷ 0xD800 ∷ []) ∷ []) breaks (1 ∷ 3 ∷ [])
    ∷ (decompositions ≔ (0xD800 ∷ 1 ∷ 0x61 ∷ []) ∷ []) breaks one 1
    ∷ (decompositions ≔ (0x100 ∷ 2 ∷ 0x61 ∷ 0xD800 ∷ []) ∷ []) breaks one 1
    ∷ (emoji ≔ (2 ∷ 0x1F468 ∷ 0x110000 ∷ []) ∷ []) breaks one 1
    ∷ (exclusions ≔ (0x61 ∷ 0xDFFF ∷ []) ∷ []) breaks one 1
    ∷ (classes ≔ (0xD800 ∷ 0xD800 ∷ 1 ∷ []) ∷ []) breaks one 1
    ∷ (wholes ≔ (1 ∷ 0xD800 ∷ 0 ∷ []) ∷ []) breaks one 1
    ∷ (wholes ≔ (0 ∷ 1 ∷ 0xD800 ∷ []) ∷ []) breaks one 1
    ∷ (escape ≔ (0xDFFF ∷ 0xE000 ∷ []) ∷ []) breaks one 1
    ∷ set_with (0x10FFFF ∷ 0x110000 ∷ []) breaks one 1
    -- inside a pair and a triple, both ends being scalar values
    ∷ (ignored ≔ (0xD7FF ∷ 0xE000 ∷ []) ∷ []) breaks one 1
    ∷ (classes ≔ (0xD7FF ∷ 0xE000 ∷ 0 ∷ []) ∷ []) breaks one 1
    -- the scalar values next to those that are none
    ∷ (ignored ≔ (0 ∷ 0xD7FF ∷ 0xE000 ∷ 0x10FFFF ∷ []) ∷ emoji ≔ (4 ∷ 0 ∷ 0xD7FF ∷ 0xE000 ∷ 0x10FFFF ∷ []) ∷ []) breaks []
    ∷ []

-- Rule 2, "Valid is exactly the groups' characters and those of their full decompositions; 2E and FE0F are not among them."
unfoldable pub rule2_cases : List Case
rule2_cases =
    -- valid, and in no group
    (valid ≔ (0x61 ∷ 0x61 ∷ []) ∷ []) breaks one 2
    -- in a group, and not valid
    ∷ (groups ≔ (0 ∷ 2 ∷ 0x61 ∷ 0x61 ∷ []) ∷ []) breaks one 2
    -- in the full decomposition of a group's character, and not valid
    ∷ (letter 0x100 ++ decompositions ≔ (0x100 ∷ 1 ∷ 0x61 ∷ []) ∷ []) breaks one 2
    ∷ (letter 0x100 ++ valid ≔ (0x61 ∷ 0x61 ∷ []) ∷ decompositions ≔ (0x100 ∷ 1 ∷ 0x61 ∷ []) ∷ []) breaks []
    -- 101 is on the way from 100 to 102, and not in the full decomposition
    ∷ (letter 0x100 ++ valid ≔ (0x101 ∷ 0x102 ∷ []) ∷ decompositions ≔ chain 0x100 2 ∷ []) breaks one 2
    -- the jamo of a syllable
    ∷ (letter 0xAC00 ++ valid ≔ (0x1100 ∷ 0x1100 ∷ []) ∷ []) breaks one 2
    ∷ (letter 0xAC00 ++ valid ≔ (0x1100 ∷ 0x1100 ∷ 0x1161 ∷ 0x1161 ∷ []) ∷ []) breaks []
    -- 2E; FE0F
    ∷ letter 0x2E breaks one 2
    ∷ letter 0xFE0F breaks one 2
    ∷ []

-- Rule 3, "Every item of a mapping is valid."
unfoldable pub rule3_cases : List Case
rule3_cases =
    (mapped ≔ (0x41 ∷ 1 ∷ 0x61 ∷ []) ∷ []) breaks one 3
    ∷ (letter 0x61 ++ mapped ≔ (0x41 ∷ 2 ∷ 0x61 ∷ 0x62 ∷ []) ∷ []) breaks one 3
    ∷ (letter 0x61 ++ mapped ≔ (0x41 ∷ 2 ∷ 0x61 ∷ 0x61 ∷ []) ∷ []) breaks []
    ∷ []

-- Rule 4, "No emoji sequence holds 2E, starts with FE0F or has two FE0F together; stripped, no two are equal."
unfoldable pub rule4_cases : List Case
rule4_cases =
    (emoji ≔ (2 ∷ 0x1F468 ∷ 0x2E ∷ []) ∷ []) breaks one 4
    ∷ (emoji ≔ (2 ∷ 0xFE0F ∷ 0x1F468 ∷ []) ∷ []) breaks one 4
    ∷ (emoji ≔ (3 ∷ 0x1F468 ∷ 0xFE0F ∷ 0xFE0F ∷ []) ∷ []) breaks one 4
    ∷ (emoji ≔ (2 ∷ 0x1F468 ∷ 0xFE0F ∷ 1 ∷ 0x1F468 ∷ []) ∷ []) breaks one 4
    ∷ (emoji ≔ (4 ∷ 0x1F468 ∷ 0xFE0F ∷ 0x200D ∷ 0xFE0F ∷ 1 ∷ 0x1F468 ∷ []) ∷ []) breaks []
    ∷ []

-- Rule 5, "No valid codepoint is alone a stripped sequence. Where a proper start of a stripped sequence is itself one, or is one valid
-- codepoint, the next codepoint is neither valid nor first of any sequence."
unfoldable pub rule5_cases : List Case
rule5_cases =
    (letter 0x61 ++ emoji ≔ (2 ∷ 0x61 ∷ 0xFE0F ∷ []) ∷ []) breaks one 5
    -- a start that is a sequence, then what is valid; then what is first of a sequence
    ∷ (letter 0x61 ++ emoji ≔ (1 ∷ 0x1F468 ∷ 2 ∷ 0x1F468 ∷ 0x61 ∷ []) ∷ []) breaks one 5
    ∷ (emoji ≔ (2 ∷ 0x1F468 ∷ 0xFE0F ∷ 3 ∷ 0x1F468 ∷ 0xFE0F ∷ 0x1F469 ∷ 1 ∷ 0x1F469 ∷ []) ∷ []) breaks one 5
    -- a start that is one valid codepoint, then the same
    ∷ (letter 0x61 ++ emoji ≔ (2 ∷ 0x61 ∷ 0x61 ∷ []) ∷ []) breaks one 5
    ∷ (letter 0x61 ++ emoji ≔ (2 ∷ 0x61 ∷ 0x1F468 ∷ 1 ∷ 0x1F468 ∷ []) ∷ []) breaks one 5
    -- a start of two codepoints that is a sequence
    ∷ (letter 0x61 ++ emoji ≔ (2 ∷ 0x1F468 ∷ 0x200D ∷ 3 ∷ 0x1F468 ∷ 0x200D ∷ 0x61 ∷ []) ∷ []) breaks one 5
    -- a start that is neither; a next codepoint that is neither
    ∷ (letter 0x61 ++ emoji ≔ (2 ∷ 0x1F468 ∷ 0x61 ∷ []) ∷ []) breaks []
    ∷ (letter 0x61 ++ emoji ≔ (3 ∷ 0x61 ∷ 0xFE0F ∷ 0x20E3 ∷ 1 ∷ 0x1F468 ∷ 2 ∷ 0x1F468 ∷ 0x200D ∷ []) ∷ []) breaks []
    ∷ []

-- Rule 6, "Four rounds decompose fully; heads are distinct; no head is ASCII, a Hangul syllable or a jamo; no class entry gives a jamo or a
-- syllable a class other than 0."
unfoldable pub rule6_cases : List Case
rule6_cases =
    -- five rounds are needed; four are
    (decompositions ≔ chain 0x100 5 ∷ []) breaks one 6
    ∷ (decompositions ≔ chain 0x100 4 ∷ []) breaks []
    -- a syllable behind four rounds
    ∷ (decompositions ≔ (chain 0x100 3 ++ 0x103 ∷ 1 ∷ 0xAC00 ∷ []) ∷ []) breaks one 6
    -- two heads are the same
    ∷ (decompositions ≔ (0x100 ∷ 1 ∷ 0x61 ∷ 0x100 ∷ 1 ∷ 0x61 ∷ []) ∷ []) breaks one 6
    -- an ASCII head; the first that is none
    ∷ (decompositions ≔ (0x7F ∷ 1 ∷ 0x61 ∷ []) ∷ []) breaks one 6
    ∷ (decompositions ≔ (0x80 ∷ 1 ∷ 0x61 ∷ []) ∷ []) breaks []
    -- syllables and jamo as heads, and their neighbours
    ∷ (decompositions ≔ (0xAC00 ∷ 1 ∷ 0x61 ∷ []) ∷ []) breaks one 6
    ∷ (decompositions ≔ (0xD7A3 ∷ 1 ∷ 0x61 ∷ []) ∷ []) breaks one 6
    ∷ (decompositions ≔ (0x1112 ∷ 1 ∷ 0x61 ∷ []) ∷ []) breaks one 6
    ∷ (decompositions ≔ (0x1161 ∷ 1 ∷ 0x61 ∷ []) ∷ []) breaks one 6
    ∷ (decompositions ≔ (0x11C2 ∷ 1 ∷ 0x61 ∷ []) ∷ []) breaks one 6
    ∷ (decompositions ≔ each_61 (0xABFF ∷ 0xD7A4 ∷ 0x10FF ∷ 0x1113 ∷ 0x1160 ∷ 0x1176 ∷ 0x11A7 ∷ 0x11C3 ∷ []) ∷ []) breaks []
    -- a class for jamo of each kind, for syllables; class 0, and a class for their neighbours
    ∷ (classes ≔ (0x300 ∷ 0x1100 ∷ 230 ∷ []) ∷ []) breaks one 6
    ∷ (classes ≔ (0x1175 ∷ 0x1180 ∷ 230 ∷ []) ∷ []) breaks one 6
    ∷ (classes ≔ (0x11B0 ∷ 0x11B0 ∷ 230 ∷ []) ∷ []) breaks one 6
    ∷ (classes ≔ (0xA000 ∷ 0xFFFF ∷ 230 ∷ []) ∷ []) breaks (1 ∷ 6 ∷ [])
    ∷ (classes ≔ (0xD7A3 ∷ 0xD7A3 ∷ 230 ∷ []) ∷ []) breaks one 6
    ∷ (classes ≔ (0 ∷ 0xD7FF ∷ 0 ∷ 0 ∷ 0x10FF ∷ 1 ∷ 0x1113 ∷ 0x1160 ∷ 1 ∷ 0x11A7 ∷ 0x11A7 ∷ 1 ∷ 0xD7A4 ∷ 0xD7FF ∷ 1 ∷ []) ∷ []) breaks []
    ∷ []

-- Rule 7, "No two composition pairs are equal, and none is a Hangul pair."
unfoldable pub rule7_cases : List Case
rule7_cases =
    (decompositions ≔ (0xC0 ∷ 2 ∷ 0x61 ∷ 0x300 ∷ 0xC1 ∷ 2 ∷ 0x61 ∷ 0x300 ∷ []) ∷ []) breaks one 7
    -- an open syllable's pair, and a closed one's
    ∷ (decompositions ≔ (0xC0 ∷ 2 ∷ 0x1100 ∷ 0x1161 ∷ []) ∷ []) breaks one 7
    ∷ (decompositions ≔ (0xC0 ∷ 2 ∷ 0xAC00 ∷ 0x11A8 ∷ []) ∷ []) breaks one 7
    -- no pairs: one head is excluded, one has a class, one first item has a class, one has three items
    ∷ (decompositions ≔ (0xC0 ∷ 2 ∷ 0x61 ∷ 0x300 ∷ 0xC1 ∷ 2 ∷ 0x61 ∷ 0x300 ∷ []) ∷ exclusions ≔ (0xC1 ∷ []) ∷ []) breaks []
    ∷ (decompositions ≔ (0xC0 ∷ 2 ∷ 0x61 ∷ 0x300 ∷ 0xC1 ∷ 2 ∷ 0x61 ∷ 0x300 ∷ []) ∷ classes ≔ (0xC0 ∷ 0xC0 ∷ 230 ∷ []) ∷ []) breaks []
    ∷ (decompositions ≔ (0xC0 ∷ 2 ∷ 0x61 ∷ 0x300 ∷ 0xC1 ∷ 2 ∷ 0x61 ∷ 0x300 ∷ []) ∷ classes ≔ (0x61 ∷ 0x61 ∷ 230 ∷ []) ∷ []) breaks []
    ∷ (decompositions ≔ (0xC0 ∷ 3 ∷ 0x1100 ∷ 0x1161 ∷ 0x61 ∷ 0xC1 ∷ 2 ∷ 0x1100 ∷ 0x11A8 ∷ []) ∷ []) breaks []
    ∷ []

-- Rule 8, "if it isn't empty, it holds every codepoint that isn't its own NFC and every one whose full decomposition starts with the second item
-- of a composition pair, Hangul included."
unfoldable pub rule8_cases : List Case
rule8_cases =
    -- the empty set holds none of them, and need not; the smallest one that is not empty
    (decompositions ≔ (0x100 ∷ 1 ∷ 0x61 ∷ []) ∷ []) breaks []
    ∷ set_with [] breaks []
    -- a codepoint that isn't its own NFC: it decomposes to one, it is excluded, its parts compose to another
    ∷ (set_with [] ++ decompositions ≔ (0x100 ∷ 1 ∷ 0x61 ∷ []) ∷ []) breaks one 8
    ∷ (set_with (0x100 ∷ 0x100 ∷ []) ++ decompositions ≔ (0x100 ∷ 1 ∷ 0x61 ∷ []) ∷ []) breaks []
    ∷ (set_with (0x300 ∷ 0x300 ∷ []) ++ decompositions ≔ (0xC0 ∷ 2 ∷ 0x61 ∷ 0x300 ∷ []) ∷ []) breaks []
    ∷ (set_with (0x300 ∷ 0x300 ∷ []) ++ decompositions ≔ (0xC0 ∷ 2 ∷ 0x61 ∷ 0x300 ∷ []) ∷ exclusions ≔ (0xC0 ∷ []) ∷ []) breaks one 8
    ∷ (set_with (0x300 ∷ 0x300 ∷ []) ++ decompositions ≔ (0x100 ∷ 1 ∷ 0xC0 ∷ 0xC0 ∷ 2 ∷ 0x61 ∷ 0x300 ∷ []) ∷ []) breaks one 8
    -- the second item of a pair; of what is no pair
    ∷ (set_with [] ++ decompositions ≔ (0xC0 ∷ 2 ∷ 0x61 ∷ 0x300 ∷ []) ∷ []) breaks one 8
    ∷ (set_with (0xC0 ∷ 0xC0 ∷ []) ++ decompositions ≔ (0xC0 ∷ 2 ∷ 0x61 ∷ 0x300 ∷ []) ∷ exclusions ≔ (0xC0 ∷ []) ∷ []) breaks []
    -- one that is its own NFC and starts with a second item: C1 is 300 301, and 300 is one
    ∷ (set_with (0x300 ∷ 0x301 ∷ []) ++ decompositions ≔ (0xC0 ∷ 2 ∷ 0x61 ∷ 0x300 ∷ 0xC1 ∷ 2 ∷ 0x300 ∷ 0x301 ∷ []) ∷ []) breaks one 8
    ∷ (set_with (0xC1 ∷ 0xC1 ∷ 0x300 ∷ 0x301 ∷ []) ++ decompositions ≔ (0xC0 ∷ 2 ∷ 0x61 ∷ 0x300 ∷ 0xC1 ∷ 2 ∷ 0x300 ∷ 0x301 ∷ []) ∷ []) breaks []
    -- C1 is 62 C0 and composes no further than that; C0, a second item and a head, need not be held: its full decomposition starts with 61
    ∷ (set_with (0x300 ∷ 0x300 ∷ []) ++ decompositions ≔ (0xC0 ∷ 2 ∷ 0x61 ∷ 0x300 ∷ 0xC1 ∷ 2 ∷ 0x62 ∷ 0xC0 ∷ []) ∷ []) breaks one 8
    ∷ (set_with (0xC1 ∷ 0xC1 ∷ 0x300 ∷ 0x300 ∷ []) ++ decompositions ≔ (0xC0 ∷ 2 ∷ 0x61 ∷ 0x300 ∷ 0xC1 ∷ 2 ∷ 0x62 ∷ 0xC0 ∷ []) ∷ []) breaks []
    -- a vowel that is missing, a trailing consonant, both ends of each
    ∷ (quick_check ≔ (0x1162 ∷ 0x1175 ∷ 0x11A8 ∷ 0x11C2 ∷ []) ∷ []) breaks one 8
    ∷ (quick_check ≔ (0x1161 ∷ 0x1174 ∷ 0x11A8 ∷ 0x11C2 ∷ []) ∷ []) breaks one 8
    ∷ (quick_check ≔ (0x1161 ∷ 0x1175 ∷ 0x11A9 ∷ 0x11C2 ∷ []) ∷ []) breaks one 8
    ∷ (quick_check ≔ (0x1161 ∷ 0x1175 ∷ 0x11A8 ∷ 0x11C1 ∷ []) ∷ []) breaks one 8
    -- the leading consonant 1112 is a second item: it is held, and so are its syllables, the first and the last of them too
    ∷ (set_with (0x1112 ∷ 0x1112 ∷ 0xD558 ∷ 0xD7A3 ∷ []) ++ decompositions ≔ (0xC0 ∷ 2 ∷ 0x61 ∷ 0x1112 ∷ []) ∷ []) breaks []
    ∷ (set_with (0x1112 ∷ 0x1112 ∷ 0xD559 ∷ 0xD7A3 ∷ []) ++ decompositions ≔ (0xC0 ∷ 2 ∷ 0x61 ∷ 0x1112 ∷ []) ∷ []) breaks one 8
    ∷ (set_with (0x1112 ∷ 0x1112 ∷ 0xD558 ∷ 0xD7A2 ∷ []) ++ decompositions ≔ (0xC0 ∷ 2 ∷ 0x61 ∷ 0x1112 ∷ []) ∷ []) breaks one 8
    ∷ (set_with (0xD558 ∷ 0xD7A3 ∷ []) ++ decompositions ≔ (0xC0 ∷ 2 ∷ 0x61 ∷ 0x1112 ∷ []) ∷ []) breaks one 8
    ∷ []

-- the numbers of all rules that a table breaks
unfoldable pub broken_rules : List ℕ → List ℕ
unfolding the_table rule1 rule2 rule3 rule4 rule5 rule6 rule7 rule8
broken_rules ws = let t = the_table ws in numbered 1 (rule1 t ∷ rule2 t ∷ rule3 t ∷ rule4 t ∷ rule5 t ∷ rule6 t ∷ rule7 t ∷ rule8 t ∷ [])
  where
    numbered : ℕ → List Bool → List ℕ
    numbered n [] = []
    numbered n (b ∷ bs) = let r = numbered (suc n) bs in cond b r (n ∷ r)

-- "The answer is "sound", or the lowest number of these that is broken"
abbrev pub lowest : List ℕ → Option ℕ
lowest [] = none
lowest (n ∷ ns) = some n

abbrev broken_in : List Case → List (List ℕ)
broken_in ks = map (λ (k : Case). broken_rules (table_words k.table)) ks

abbrev answers_to : List Case → List (Option ℕ)
answers_to ks = map (λ (k : Case). soundness_of (table_words k.table)) ks

pub rule1_broken : broken_in rule1_cases ≡ map (λ (k : Case). k.broken) rule1_cases
unfolding broken_rules table_words rule1_cases
rule1_broken = refl

pub rule1_answers : answers_to rule1_cases ≡ map (λ (k : Case). lowest k.broken) rule1_cases
unfolding soundness_of table_words rule1_cases
rule1_answers = refl

pub rule2_broken : broken_in rule2_cases ≡ map (λ (k : Case). k.broken) rule2_cases
unfolding broken_rules table_words rule2_cases
rule2_broken = refl

pub rule2_answers : answers_to rule2_cases ≡ map (λ (k : Case). lowest k.broken) rule2_cases
unfolding soundness_of table_words rule2_cases
rule2_answers = refl

pub rule3_broken : broken_in rule3_cases ≡ map (λ (k : Case). k.broken) rule3_cases
unfolding broken_rules table_words rule3_cases
rule3_broken = refl

pub rule3_answers : answers_to rule3_cases ≡ map (λ (k : Case). lowest k.broken) rule3_cases
unfolding soundness_of table_words rule3_cases
rule3_answers = refl

pub rule4_broken : broken_in rule4_cases ≡ map (λ (k : Case). k.broken) rule4_cases
unfolding broken_rules table_words rule4_cases
rule4_broken = refl

pub rule4_answers : answers_to rule4_cases ≡ map (λ (k : Case). lowest k.broken) rule4_cases
unfolding soundness_of table_words rule4_cases
rule4_answers = refl

pub rule5_broken : broken_in rule5_cases ≡ map (λ (k : Case). k.broken) rule5_cases
unfolding broken_rules table_words rule5_cases
rule5_broken = refl

pub rule5_answers : answers_to rule5_cases ≡ map (λ (k : Case). lowest k.broken) rule5_cases
unfolding soundness_of table_words rule5_cases
rule5_answers = refl

pub rule6_broken : broken_in rule6_cases ≡ map (λ (k : Case). k.broken) rule6_cases
unfolding broken_rules table_words rule6_cases
rule6_broken = refl

pub rule6_answers : answers_to rule6_cases ≡ map (λ (k : Case). lowest k.broken) rule6_cases
unfolding soundness_of table_words rule6_cases
rule6_answers = refl

pub rule7_broken : broken_in rule7_cases ≡ map (λ (k : Case). k.broken) rule7_cases
unfolding broken_rules table_words rule7_cases
rule7_broken = refl

pub rule7_answers : answers_to rule7_cases ≡ map (λ (k : Case). lowest k.broken) rule7_cases
unfolding soundness_of table_words rule7_cases
rule7_answers = refl

pub rule8_broken : broken_in rule8_cases ≡ map (λ (k : Case). k.broken) rule8_cases
unfolding broken_rules table_words rule8_cases
rule8_broken = refl

pub rule8_answers : answers_to rule8_cases ≡ map (λ (k : Case). lowest k.broken) rule8_cases
unfolding soundness_of table_words rule8_cases
rule8_answers = refl
