-- What is reached after some rounds, window by window.
use Rattle.std.specs.Prelude.{ℕ, ◌*◌, ◌%◌, ◌<◌, ◌≤◌, ◌≡◌, true, false, List, length}
use Rattle.lists.specs.Lists.{all, mem}
use Rattle.table.specs.Layout.{most_words, groups}
use Rattle.table.specs.Table.{Table}
use Rattle.text.specs.Decomposition.{round}
use Rattle.soundness.specs.Valid.{group_characters}
use Rattle.table.specs.Part.{records_in}
use Rattle.sound_parts.specs.Parts.{Holds, as_headed}
use Rattle.bit_sets.specs.Sets.{has, window_words}
use Rattle.sound_choices.specs.Rounds.{heads_of, in_groups, after, Holding, Chosen, row_places, rows_words}
use Rattle.sound_choices.specs.Choices.{is_point}

-- the words are those of the table's decompositions, whose heads are codepoints up to 10FFFF, and of its groups
pub record PartsOf (t : Table) (part gs : List ℕ) : Type 0 where
  pub heads_hold : Holds as_headed part
  pub heads_are : records_in as_headed part ≡ t.decompositions
  pub short : length part ≤ most_words
  pub points : all is_point (heads_of t.decompositions) ≡ true
  pub groups_hold : Holds groups gs
  pub groups_are : records_in groups gs ≡ t.groups
  pub characters : (c : ℕ) → mem c (group_characters t) ≡ in_groups c t.groups

-- a window starts at a multiple of its size
pub record Aligned (base : ℕ) : Type 0 where
  pub even : base % 0x10000 ≡ 0
  pub high : base < 0x110000

-- a round of the codepoints of a list, where the row k holds the records that replace them
pub record RoundIn (t : Table) (base k : ℕ) (rows set set' other : List ℕ) : Type 0 where
  pub room : length set' ≡ window_words
  pub room_2 : length other ≡ window_words
  pub each : (s : List ℕ) → Holding base set s → Chosen t.decompositions rows k s → Holding base set' (round t s)

-- what is reached from s after k rounds, where the rows before k are those of the rounds before
pub record Reached (t : Table) (s : List ℕ) (k base : ℕ) (rows heads set other : List ℕ) : Type 0 where
  pub headed : Holding base heads (heads_of t.decompositions)
  pub room : length set ≡ window_words
  pub room_2 : length other ≡ window_words
  pub each : ((j : ℕ) → j < k → Chosen t.decompositions rows j (after j t s)) → Holding base set (after k t s)

-- the rows before k are those of the rounds from s on, and the others are empty; the sets have their size
pub record RoundsChosen (t : Table) (s : List ℕ) (k : ℕ) (rows heads set other : List ℕ) : Type 0 where
  pub room : length rows ≡ rows_words
  pub chosen : (j : ℕ) → j < k → Chosen t.decompositions rows j (after j t s)
  pub blank : (e : ℕ) → k * row_places ≤ e → e < rows_words * 32 → has rows e ≡ false
  pub room-heads : length heads ≡ window_words
  pub room_set : length set ≡ window_words
  pub room_other : length other ≡ window_words
