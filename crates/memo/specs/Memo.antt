-- What the look-alike test remembers: the components of the wholes that it met last, each in a slot of its own.
use Rattle.std.specs.Prelude.{ℕ, ◌+◌, ◌*◌, ◌<◌, ◌≡◌, ◌≤◌, Bool, ◌||◌, List, [], ◌∷◌, length, get_or, take, drop}
use Rattle.lists.specs.Lists.{mem}
use Rattle.table.specs.declared.Span.{Span}
use Rattle.table.specs.Spans.{within}
use Rattle.table.specs.Layout.{the_table, most_words}
use Rattle.group_numbers.specs.Components.{Components}

-- so many slots
abbrev pub slot_count : ℕ
slot_count = 8

-- each has the places of the valid and of the confused list of a whole, and behind them a number for each group
abbrev pub keyed : ℕ
keyed = 4

abbrev pub slot_size : ℕ
slot_size = 260

-- and behind all of them the slot that is written next
abbrev pub memo_size : ℕ
memo_size = slot_count * slot_size + 1

abbrev pub slot_at : List ℕ → ℕ → List ℕ
slot_at memo j = take slot_size (drop (slot_size * j) memo)

abbrev pub valid_in : List ℕ → Span
valid_in s = record { from = get_or s 0 0; to = get_or s 1 0 }

abbrev pub confused_in : List ℕ → Span
confused_in s = record { from = get_or s 2 0; to = get_or s 3 0 }

-- the words in front of the slot for a whole
abbrev pub key_of : Span → Span → List ℕ
key_of valid confused = valid.from ∷ valid.to ∷ confused.from ∷ confused.to ∷ []

-- the places of a list are those of words of a table
pub record Small (s : Span) : Type 0 where
  pub from : s.from ≤ most_words
  pub to : s.to ≤ most_words

-- x is a member of the whole whose lists stand there
abbrev pub is_member : List ℕ → Span → Span → ℕ → Bool
is_member ws valid confused x = mem x (within valid ws) || mem x (within confused ws)

-- the slot has the components of a whole
abbrev pub ComponentsOf : List ℕ → Span → Span → List ℕ → Type 0
ComponentsOf ws valid confused k = Components (the_table ws).groups (is_member ws valid confused) k

-- the slot has the components of the whole that it names
pub record Slot (ws s : List ℕ) : Type 0 where
  pub size : length s ≡ slot_size
  pub so : ComponentsOf ws (valid_in s) (confused_in s) (drop keyed s)

-- the slot names this whole
pub record Keyed (valid confused : Span) (s : List ℕ) : Type 0 where
  pub size : length s ≡ slot_size
  pub valid_there : valid_in s ≡ valid
  pub confused_there : confused_in s ≡ confused

-- the slot is for this whole
pub record SlotFor (ws : List ℕ) (valid confused : Span) (s : List ℕ) : Type 0 where
  pub slot : Slot ws s
  pub key : Keyed valid confused s

-- every slot is right
pub record Memo (ws memo : List ℕ) : Type 0 where
  pub size : length memo ≡ memo_size
  pub each : (j : ℕ) → j < slot_count → Slot ws (slot_at memo j)

-- the slot that is found for a whole is for that whole
pub record Sought (ws : List ℕ) (valid confused : Span) (memo : List ℕ) (r : ℕ) : Type 0 where
  pub few : r < slot_count
  pub found : SlotFor ws valid confused (slot_at memo r)

-- a slot is for the whole now
pub record Recalled (ws : List ℕ) (valid confused : Span) (memo : List ℕ) (r : ℕ) : Type 0 where
  pub kept : Memo ws memo
  pub few : r < slot_count
  pub found : SlotFor ws valid confused (slot_at memo r)
