-- What rule 5 asks of emoji sequences, given by their items with FE0F among them.
use Rattle.std.specs.Prelude.{ℕ, Bool, not, ◌&&◌, ◌||◌, List}
use Rattle.table.specs.Table.{Table}
use Rattle.finder.specs.Emoji.{strip}
use Rattle.soundness.specs.Sequences.{stripped_emoji, is_stripped, one_valid, apart}

-- rule 5, of one sequence
unfoldable pub keeps_apart : Table → List ℕ → Bool
unfolding strip apart
keeps_apart t s = not (one_valid t (strip s)) && apart t (strip s)

-- the stripped items are a stripped sequence or one valid codepoint
unfoldable pub stands_alone : Table → List ℕ → Bool
unfolding strip stripped_emoji
stands_alone t s = is_stripped t (strip s) || one_valid t (strip s)
