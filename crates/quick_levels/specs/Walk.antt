-- What the walks over the decompositions find, each of them for every record.
use Rattle.std.specs.Prelude.{ℕ, ◌+◌, ◌≤◌, ◌<◌, ◌≡◌, Bool, true, false, length, get_or, take, drop}
use mathlib.Core.List.{List, ◌∷◌, ◌++◌, Memᴰ}
use Rattle.lists.specs.Lists.{any}
use Rattle.table.specs.Table.{Headed}
use Rattle.table.specs.Layout.{most_items}
use Rattle.table.specs.Part.{heads_in, HeadedAt}
use Rattle.heads.specs.Heads.{RecordsFrom}
use Rattle.soundness.specs.Pairs.{plain_head}
use Rattle.quick_local.specs.Local.{Lifts}
use Rattle.quick_filters.specs.Filter.{holds, Grown}
use Rattle.quick_filters.specs.Slot.{SlotsIn, Kept}

abbrev pub Each : (Headed → Type 0) → List Headed → Type 0
Each P rs = (x : Headed) → Memᴰ x rs → P x

-- A walk over the records of a part that has come to `at`: those that are passed are so.
pub record Passed (P : Headed → Type 0) (part : List ℕ) (at : ℕ) : Type 0 where
  pub passed : List Headed
  pub left : List Headed
  pub split : heads_in part ≡ passed ++ left
  pub walk : HeadedAt most_items part at left
  pub each : Each P passed

abbrev pub Few : Headed → Type 0
Few x = length x.items ≤ 2

-- heads are in the filter, are plain, and have one item or two
pub record HeadNoted (set : List ℕ) (x : Headed) : Type 0 where
  pub noted : holds set x.head ≡ true
  pub plain : plain_head x.head ≡ true
  pub few : Few x

pub record HeadsNoted (part old new : List ℕ) (r : Bool) : Type 0 where
  pub room : length new ≡ length old
  pub each : r ≡ true → Each (HeadNoted new) (heads_in part)

-- the heads of the records with an item in `from` are in the filter; or there are none
pub record Lifted (part from old new : List ℕ) (r : Bool) : Type 0 where
  pub room : length new ≡ length old
  pub lifts : Lifts (heads_in part) (holds from) (holds new)
  pub none : r ≡ false → Lifts (heads_in part) (holds from) (λ x. false)

-- the same of the record of n items at i
abbrev pub items_at : List ℕ → ℕ → ℕ → List ℕ
items_at part i n = take n (drop (i + 2) part)

pub record RecordLifted (part : List ℕ) (i n : ℕ) (from old new : List ℕ) (r : Bool) : Type 0 where
  pub grown : Grown old new
  pub lifts : any (holds from) (items_at part i n) ≡ true → holds new (get_or part i 0) ≡ true
  pub none : r ≡ false → any (holds from) (items_at part i n) ≡ false

-- a word of a record head, count, items
abbrev pub word_of : Headed → ℕ → ℕ
word_of x k = get_or (x.head ∷ length x.items ∷ x.items) k 0

-- a slot holds the place of a record's words from `off` on
pub record PlaceOf (part : List ℕ) (off v : ℕ) : Type 0 where
  pub place : ℕ
  pub at : v ≡ place + off + 1
  pub inside : place < length part
  pub from : RecordsFrom part place

abbrev pub Entered : List ℕ → ℕ → List ℕ → Headed → Type 0
Entered part off slots x = length x.items ≡ 2 → Kept part slots (word_of x off) (word_of x (off + 1))

-- no two of the records with two items agree in the words from `off` on
abbrev pub Apart : ℕ → List Headed → Type 0
Apart off rs = (q r : Headed) → Memᴰ q rs → Memᴰ r rs → length q.items ≡ 2 → length r.items ≡ 2 → word_of q off ≡ word_of r off
    → word_of q (off + 1) ≡ word_of r (off + 1) → q.head ≡ r.head

-- the records with two items are in the index by their words from `off` on, and no two agree in them
pub record Indexed (part : List ℕ) (off : ℕ) (slots : List ℕ) : Type 0 where
  pub full : SlotsIn part slots
  pub kept : Each (Entered part off slots) (heads_in part)
  pub places : (i : ℕ) → (get_or slots i 0 ≡ 0 → ⊥) → PlaceOf part off (get_or slots i 0)
  pub once : Apart off (heads_in part)
