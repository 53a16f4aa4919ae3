-- How a walk over a section of records head, count, items stands: what is known of the records that are passed, and what is left.
use Rattle.std.specs.Prelude.{ℕ, ◌+◌, ◌≤◌, ◌<◌, ◌≡◌, Bool, true, ◌&&◌, List, ◌++◌, length, get_or, drop}
use Rattle.lists.specs.Lists.{is_some}
use Rattle.table.specs.Table.{Headed}
use Rattle.table.specs.Layout.{most_items, headed}
use Rattle.table.specs.Part.{heads_in, HeadedAt}
use Rattle.place_marks.specs.declared.Marks.{Marks}
use Rattle.heads.specs.declared.HeadsWalk.{HeadsWalk}
use Rattle.heads.specs.Heads.{rising, MarksStand}

-- the words from `at` on are records
abbrev pub fits_from : List ℕ → ℕ → ℕ → Bool
fits_from ws most at = is_some (headed (length (drop at ws)) most (drop at ws))

-- the walk in a section that is well formed
pub record HeadsSeen (ws : List ℕ) (most at floor : ℕ) (flag : Bool) (m : Marks) : Type 0 where
  pub passed : List Headed
  pub left : List Headed
  pub split : heads_in ws ≡ passed ++ left
  pub walk : HeadedAt most ws at left
  pub rise : (flag && rising floor left) ≡ rising 0 (heads_in ws)
  pub marks : MarksStand ws m

-- and in one that may be
pub record HeadsPass (ws : List ℕ) (most at floor : ℕ) (flag : Bool) (m : Marks) : Type 0 where
  pub few : most ≤ most_items
  pub inside : at ≤ length ws
  pub fits : is_some (headed (length ws) most ws) ≡ fits_from ws most at
  pub seen : is_some (headed (length ws) most ws) ≡ true → HeadsSeen ws most at floor flag m

-- the lower of two places
pub record Lower (a b r : ℕ) : Type 0 where
  pub first : r ≤ a
  pub second : r ≤ b
  pub above : (k : ℕ) → k < a → k < b → k < r

-- from v the walk has come to w past records of n items, and past one at least where one stands before `stop`
pub record RunPassed (ws : List ℕ) (n stop : ℕ) (v w : HeadsWalk) : Type 0 where
  pub on : (most : ℕ) (m : Marks) → n ≤ most → HeadsPass ws most v.at v.floor v.rising m → HeadsPass ws most w.at w.floor w.rising m
  pub further : v.at < stop → get_or ws (v.at + 1) 0 ≡ n → v.at < w.at
