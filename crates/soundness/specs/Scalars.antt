-- Rule 1: "Every codepoint named, those inside pairs and triples included, is a Unicode scalar value."
use Rattle.std.specs.Prelude.{ℕ, Bool, ◌&&◌, ◌||◌, List, [], ◌++◌, leb, ltb}
use Rattle.std.proofs.Math.Option.{get_or}
use Rattle.lists.specs.Lists.{all}
use Rattle.table.specs.Table.{Range, ClassRange, Headed, Group, Whole, Table}
use Rattle.scalar.specs.Scalar.{is_scalar}

-- every codepoint from first to last is a scalar value: none is over 10FFFF, and the surrogates lie outside
abbrev pub scalars_between : ℕ → ℕ → Bool
scalars_between first last = leb last 0x10FFFF && (ltb last 0xD800 || ltb 0xDFFF first)

abbrev pub scalar_ranges : List Range → Bool
scalar_ranges rs = all (λ (r : Range). scalars_between r.first r.last) rs

abbrev pub scalar_headed : List Headed → Bool
scalar_headed rs = all (λ (r : Headed). is_scalar r.head && all is_scalar r.items) rs

-- a group's characters, and the items of its list (02, Item 12)
abbrev pub scalar_group : Group → Bool
scalar_group g = scalar_ranges g.ranges && all (all is_scalar) (get_or g.sequences [])

unfoldable pub rule1 : Table → Bool
rule1 t =
    scalar_ranges t.valid && scalar_ranges t.ignored && scalar_ranges t.fenced && scalar_ranges t.marks
    && scalar_ranges t.nsm
    && scalar_headed t.mapped
    && scalar_headed t.decompositions
    && all (all is_scalar) t.emoji
    && all is_scalar t.exclusions
    && all (λ (r : ClassRange). scalars_between r.first r.last) t.classes
    && all scalar_group t.groups
    && all (λ (w : Whole). all is_scalar (w.valid ++ w.confused)) t.wholes
    && scalar_ranges t.escape
    && scalar_ranges t.quick_check
