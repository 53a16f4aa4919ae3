-- Refusal 14. 01, "The rules of one label", "Confusable", with the extent of 02, Item 6.
use Rattle.std.specs.Prelude.{ℕ, zero, suc, Bool, not, ◌&&◌, List, [], ◌∷◌, ◌++◌, length}
use Rattle.lists.specs.Lists.{all, any, is_some, keep, mem, on_some}
use Rattle.table.specs.Table.{Table, Group, Whole}
use Rattle.table.specs.Lookup.{holds, whole_of}

-- "a character is confused if the confused list of a whole holds it"
unfoldable pub is_confused : Table → ℕ → Bool
unfolding whole_of
is_confused t c = is_some (whole_of t.wholes c)

-- "every member, valid or confused, of that whole"
abbrev pub members : Whole → List ℕ
members w = w.valid ++ w.confused

-- some group holds both
abbrev pub share_group : Table → ℕ → ℕ → Bool
share_group t a b = any (λ g. holds g a && holds g b) t.groups

-- 02, Item 6: "starting from the character, add every member that shares a group with one already in, until nothing is added". Those that
-- one round adds:
unfoldable pub added : Table → Whole → List ℕ → List ℕ
added t w s = keep (λ m. not (mem m s) && any (λ x. share_group t x m) s) (members w)

-- so many rounds
unfoldable pub rounds : Table → Whole → ℕ → List ℕ → List ℕ
unfolding added
rounds t w zero s = s
rounds t w (suc n) s = rounds t w n (s ++ added t w s)

-- "until nothing is added": each round but the last adds a member, so that as many rounds as there are members are enough
-- (`Extent` `extent_closed`)
unfoldable pub extent : Table → Whole → ℕ → List ℕ
unfolding rounds
extent t w c = rounds t w (length (members w)) (c ∷ [])

-- the members of its whole outside its extent
unfoldable pub outside : Table → Whole → ℕ → List ℕ
unfolding extent
outside t w c = keep (λ m. not (mem m (extent t w c))) (members w)

-- the group can spell c otherwise: where c is confused it holds "a member of its whole outside its extent", else it holds c
unfoldable pub respells : Table → Group → ℕ → Bool
unfolding whole_of outside
respells t g c = on_some (whole_of t.wholes c) (λ w. any (holds g) (outside t w c)) (holds g c)

-- "The label is confusable exactly when its text holds a confused character and some group holds, for each confused character of the
-- text, a member of its whole outside its extent, and also every other character of the text."
unfoldable pub confusable : Table → List ℕ → Bool
unfolding is_confused respells
confusable t s = any (is_confused t) s && any (λ g. all (respells t g) s) t.groups
