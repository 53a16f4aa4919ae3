-- Rule 6, head by head.
use Rattle.std.specs.Prelude.{ℕ, ◌+◌, Bool, not, ◌&&◌, ◌||◌, List, [], ◌∷◌}
use Rattle.lists.specs.Lists.{all, mem, same_list, distinct}
use Rattle.table.specs.Table.{Headed, Table}
use Rattle.text.specs.Decomposition.{single, four_rounds}
use Rattle.soundness.specs.Pairs.{heads, plain_head}
use Rattle.bit_sets.specs.Sets.{has}
use Rattle.sound_choices.specs.Rounds.{heads_of}

-- c decomposes no further
unfoldable pub is_stable : Table → ℕ → Bool
unfolding single
is_stable t c = same_list (single t c) (c ∷ [])

-- the codepoint at the place d of a window decomposes no further, where the set holds it
unfoldable pub stable_at : Table → ℕ → List ℕ → ℕ → Bool
unfolding is_stable has
stable_at t base set d = not (has set d) || is_stable t (base + d)

-- c decomposes no further, where it is reached from the heads after four rounds
unfoldable pub settled : Table → ℕ → Bool
unfolding is_stable four_rounds
settled t c = not (mem c (four_rounds t (heads t))) || is_stable t c

-- a head is plain and none of the later ones
unfoldable pub head_fits : ℕ → List Headed → Bool
head_fits h later = plain_head h && not (mem h (heads_of later))

-- the heads of a list are plain and distinct
unfoldable pub heads_fit : List Headed → Bool
heads_fit rs = distinct (heads_of rs) && all plain_head (heads_of rs)
