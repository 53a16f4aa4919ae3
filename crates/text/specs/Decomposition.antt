-- Combining classes and full decomposition. 01, "What the unit hands over" (Hangul "before any table entry"), "The table"
-- (classes) and "The rules of one label" ("Full decomposition is four rounds of single replacement, then canonical ordering").
use Rattle.std.specs.Prelude.{ℕ, ◌-◌, ◌||◌, cond, List, [], ◌∷◌}
use Rattle.std.proofs.Math.Option.{get_or}
use Rattle.lists.specs.Lists.{joined_map}
use Rattle.table.specs.Table.{Table}
use Rattle.table.specs.Lookup.{table_class, items_of}
use Rattle.text.specs.Hangul.{first_syllable, is_syllable, is_jamo, jamo_of}

-- the combining class: "syllables and jamo have class 0", then the first class entry, else 0
unfoldable pub class_of : Table → ℕ → ℕ
unfolding table_class
class_of t c = cond (is_syllable c || is_jamo c) 0 (table_class t.classes c)

-- a single replacement: a syllable's jamo, else the items of the first decomposition with this head, else the codepoint itself
unfoldable pub single : Table → ℕ → List ℕ
unfolding items_of
single t c = cond (is_syllable c) (jamo_of (c - first_syllable)) (get_or (items_of t.decompositions c) (c ∷ []))

-- one round: every codepoint of the text replaced
unfoldable pub round : Table → List ℕ → List ℕ
unfolding single
round t s = joined_map (single t) s

-- "four rounds of single replacement", before ordering
unfoldable pub four_rounds : Table → List ℕ → List ℕ
unfolding round
four_rounds t s = round t (round t (round t (round t s)))
