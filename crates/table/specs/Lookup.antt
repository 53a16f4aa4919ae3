-- Lookups in a table: "Where entries overlap, the first one counts."
use Rattle.std.specs.Prelude.{ℕ, Bool, ◌&&◌, List, leb, eqb}
use Rattle.std.proofs.Math.Option.{Option, none, some, map}
use Rattle.lists.specs.Lists.{any, first_with, mem}
use Rattle.table.specs.Table.{Range, ClassRange, Headed, Group, Whole, Table}

-- c lies from first to last
abbrev pub in_range : ℕ → Range → Bool
in_range c r = leb r.first c && leb c r.last

-- c lies in one of the ranges
abbrev pub in_ranges : ℕ → List Range → Bool
in_ranges c rs = any (in_range c) rs

abbrev pub in_class_range : ℕ → ClassRange → Bool
in_class_range c r = leb r.first c && leb c r.last

-- the class that the first entry with c gives it: "A codepoint in no class entry has class 0."
abbrev pub class_in : Option ClassRange → ℕ
class_in none = 0
class_in (some r) = r.class

unfoldable pub table_class : List ClassRange → ℕ → ℕ
table_class rs c = class_in (first_with (in_class_range c) rs)

-- the items of the first record whose head is c
unfoldable pub items_of : List Headed → ℕ → Option (List ℕ)
items_of rs c = map (λ (r : Headed). r.items) (first_with (λ (r : Headed). eqb r.head c) rs)

-- the group holds c
abbrev pub holds : Group → ℕ → Bool
holds g c = in_ranges c g.ranges

-- "Its whole is the first such": the first whose confused list holds c
unfoldable pub whole_of : List Whole → ℕ → Option Whole
whole_of ws c = first_with (λ (w : Whole). mem c w.confused) ws

-- 02, Item 9: c is among the "codepoints in the table's new should-escape section (pairs)"
abbrev pub should_escape : Table → ℕ → Bool
should_escape t c = in_ranges c t.escape

-- 02, Item 11: c is in "the quick-check set as pairs in a fourteenth section"
abbrev pub in_quick_check : Table → ℕ → Bool
in_quick_check t c = in_ranges c t.quick_check
