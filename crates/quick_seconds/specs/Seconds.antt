-- What is asked of a second item, and what the code keeps while it asks.
use Rattle.std.specs.Prelude.{ℕ, ◌<◌, ◌≡◌, Bool, true, false, List, length, get_or}
use Rattle.table.specs.Table.{Table}
use Rattle.quick_local.specs.Local.{is_head, SecondFits}
use Rattle.quick_filters.specs.Filter.{filter_words, holds}

-- every head is in the filter
pub record HeadsHeld (t : Table) (set : List ℕ) : Type 0 where
  pub room : length set ≡ filter_words
  pub each : (c : ℕ) → is_head t c ≡ true → holds set c ≡ true

-- second items that were found to fit; and a last word, how often a codepoint was asked for among the heads
pub record Good (t : Table) (good : List ℕ) : Type 0 where
  pub room : length good ≡ 257
  pub each : (i : ℕ) → i < 256 → (get_or good i 0 ≡ 0 → ⊥) → SecondFits t (get_or good i 0)

pub record HeadAsked (t : Table) (good : List ℕ) (b : ℕ) (r : Bool) : Type 0 where
  pub kept : Good t good
  pub none : r ≡ true → is_head t b ≡ false

pub record SecondAsked (t : Table) (good : List ℕ) (b : ℕ) (r : Bool) : Type 0 where
  pub kept : Good t good
  pub fits : r ≡ true → SecondFits t b
