-- Rule 2 by its codepoints, one by one.
use Rattle.std.specs.Prelude.{ℕ, Bool, not, ◌||◌, cond, List}
use Rattle.lists.specs.Lists.{mem}
use Rattle.table.specs.Table.{Table}
use Rattle.text.specs.Decomposition.{four_rounds}
use Rattle.soundness.specs.Valid.{group_characters}
use Rattle.sound_parts.specs.Parts.{is_valid}
use Rattle.bit_sets.specs.Sets.{has}
use Rattle.sound_choices.specs.Rounds.{in_groups}

-- two tests agree
abbrev pub same : Bool → Bool → Bool
same a b = cond a b (not b)

-- of three sets, the first holds the place d exactly where one of the others does
unfoldable pub covered_at : List ℕ → List ℕ → List ℕ → ℕ → Bool
unfolding has
covered_at valid groups set d = same (has valid d) (has groups d || has set d)

-- c is in the full decomposition of a group's character
unfoldable pub spelled : Table → ℕ → Bool
unfolding four_rounds group_characters
spelled t c = mem c (four_rounds t (group_characters t))

-- c is valid exactly where it is a group's character or in the full decomposition of one
unfoldable pub covered : Table → ℕ → Bool
unfolding spelled
covered t c = same (is_valid t c) (in_groups c t.groups || spelled t c)
