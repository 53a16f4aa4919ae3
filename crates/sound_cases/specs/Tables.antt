-- Closed tables for the soundness check: for each clause of each rule one that breaks that clause, and sound ones beside them. Assumes
-- nothing.
use Rattle.std.specs.Prelude.{ℕ, suc, cond, List, [], ◌∷◌, length, eqb}
use Rattle.lists.specs.Lists.{joined_map}
use Rattle.table.specs.Layout.{section_count}
use Rattle.soundness.specs.Valid.{counted_from}

-- the sections by number, in the order of the words
abbrev pub valid : ℕ
valid = 0

abbrev pub ignored : ℕ
ignored = 1

abbrev pub fenced : ℕ
fenced = 2

abbrev pub marks : ℕ
marks = 3

abbrev pub nsm : ℕ
nsm = 4

abbrev pub mapped : ℕ
mapped = 5

abbrev pub decompositions : ℕ
decompositions = 6

abbrev pub emoji : ℕ
emoji = 7

abbrev pub exclusions : ℕ
exclusions = 8

abbrev pub classes : ℕ
classes = 9

abbrev pub groups : ℕ
groups = 10

abbrev pub wholes : ℕ
wholes = 11

abbrev pub escape : ℕ
escape = 12

abbrev pub quick_check : ℕ
quick_check = 13

-- words that stand in a section; of the exclusions, the items
pub record Filled : Type 0 where
  pub section : ℕ
  pub words : List ℕ

infix 80 ◌≔◌
abbrev pub ◌≔◌ : ℕ → List ℕ → Filled
k ≔ ws = record { section = k; words = ws }

-- the words of the section k, one filling after another
abbrev fillings : ℕ → List Filled → List ℕ
fillings k fs = joined_map (λ (f : Filled). cond (eqb f.section k) f.words []) fs

-- "each led by the number of words in it"; the exclusions are one record, led by its count
abbrev section_words : List Filled → ℕ → List ℕ
section_words fs k =
    let ws = fillings k fs in
    let n = length ws in
    cond (eqb k exclusions) (suc n ∷ n ∷ ws) (n ∷ ws)

-- the words of the table whose sections are filled so, and are else empty
unfoldable pub table_words : List Filled → List ℕ
unfolding counted_from
table_words fs = joined_map (section_words fs) (counted_from 0 section_count)
