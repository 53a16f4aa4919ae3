-- Rules 2 and 3.
use Rattle.std.specs.Prelude.{ℕ, zero, suc, ◌-◌, Bool, not, ◌&&◌, List, [], ◌∷◌, ◌++◌}
use Rattle.lists.specs.Lists.{all, joined_map, mem}
use Rattle.table.specs.Table.{Range, Headed, Group, Table}
use Rattle.table.specs.Lookup.{in_ranges}
use Rattle.text.specs.Decomposition.{four_rounds}
use Rattle.finder.specs.Emoji.{selector}

-- n codepoints from c on
unfoldable pub counted_from : ℕ → ℕ → List ℕ
counted_from c zero = []
counted_from c (suc n) = c ∷ counted_from (suc c) n

-- the codepoints of ranges
unfoldable pub listed : List Range → List ℕ
unfolding counted_from
listed rs = joined_map (λ (r : Range). counted_from r.first (suc (r.last - r.first))) rs

-- "the groups' characters"
unfoldable pub group_characters : Table → List ℕ
unfolding listed
group_characters t = joined_map (λ (g : Group). listed g.ranges) t.groups

-- "the groups' characters and those of their full decompositions"
unfoldable pub spellable : Table → List ℕ
unfolding group_characters four_rounds
spellable t = group_characters t ++ four_rounds t (group_characters t)

-- Rule 2: "Valid is exactly the groups' characters and those of their full decompositions; 2E and FE0F are not among them."
unfoldable pub rule2 : Table → Bool
unfolding listed spellable
rule2 t =
    let cs = spellable t in
    all (λ c. mem c cs) (listed t.valid) && all (λ c. in_ranges c t.valid) cs && not (in_ranges 0x2E t.valid)
    && not (in_ranges selector t.valid)

-- Rule 3: "Every item of a mapping is valid."
unfoldable pub rule3 : Table → Bool
rule3 t = all (λ (r : Headed). all (λ c. in_ranges c t.valid) r.items) t.mapped
