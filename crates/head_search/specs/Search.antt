-- How a search in a section of records head, count, items stands: where it may start, and what is left.
use Rattle.std.specs.Prelude.{ℕ, ◌≤◌, ◌<◌, ◌≡◌, Bool, true, List, length, get_or}
use Rattle.table.specs.Table.{Headed}
use Rattle.table.specs.Layout.{most_items}
use Rattle.table.specs.Lookup.{items_of}
use Rattle.table.specs.Part.{heads_in, HeadedAt}
use Rattle.heads.specs.Heads.{rising, RecordsFrom}

-- a place where a search for c may start if the heads ascend: the start of the section, or one where the head is not above c
pub record StartsAt (ws : List ℕ) (c at : ℕ) : Type 0 where
  pub from : RecordsFrom ws at
  pub low : 0 < at → (at < length ws) × (get_or ws at 0 ≤ c)

-- A search for the record with head c that has come to `at`: the records left are those that the answer hangs on.
pub record Search (ws : List ℕ) (sorted : Bool) (c at : ℕ) : Type 0 where
  pub left : List Headed
  pub walk : HeadedAt most_items ws at left
  pub same : items_of left c ≡ items_of (heads_in ws) c
  pub rise : sorted ≡ true → rising 0 left ≡ true

-- a search that has come to `from` has come to `at` as well
pub record SearchPassed (ws : List ℕ) (sorted : Bool) (c from at : ℕ) : Type 0 where
  pub forward : from ≤ at
  pub on : Search ws sorted c from → Search ws sorted c at
