-- Sections of records head, count, items: whether the heads ascend, and places where records stand, from which a search may start.
-- 02, Item 11: "which sections are sorted without overlap".
use Rattle.std.specs.Prelude.{ℕ, suc, ◌<◌, ◌≡◌, Bool, true, ◌&&◌, List, [], ◌∷◌, ◌++◌, length, leb}
use Rattle.lists.specs.Lists.{is_some}
use Rattle.table.specs.Table.{Headed}
use Rattle.table.specs.Layout.{most_items, headed}
use Rattle.table.specs.Part.{heads_in, HeadedAt}
use Rattle.apart.specs.Order.{OrderOf}
use Rattle.place_marks.specs.declared.Four.{Four}
use Rattle.place_marks.specs.declared.Marks.{Marks}
use Rattle.heads.specs.declared.HeadsOrder.{HeadsOrder}

-- the heads ascend strictly, and the first is not below `floor`
unfoldable pub rising : ℕ → List Headed → Bool
rising floor [] = true
rising floor (r ∷ rs) = leb floor r.head && rising (suc r.head) rs

abbrev pub HeadsRise : List ℕ → Type 0
HeadsRise ws = rising 0 (heads_in ws) ≡ true

-- at a place stand the last records of the section
pub record RecordsFrom (ws : List ℕ) (at : ℕ) : Type 0 where
  pub passed : List Headed
  pub left : List Headed
  pub split : heads_in ws ≡ passed ++ left
  pub walk : HeadedAt most_items ws at left

-- a mark is such a place, or lies behind the words
abbrev pub Stands : List ℕ → ℕ → Type 0
Stands ws at = at < length ws → RecordsFrom ws at

pub record FourStand (ws : List ℕ) (f : Four) : Type 0 where
  pub p : Stands ws f.p
  pub q : Stands ws f.q
  pub r : Stands ws f.r
  pub s : Stands ws f.s

pub record MarksStand (ws : List ℕ) (m : Marks) : Type 0 where
  pub a : FourStand ws m.a
  pub b : FourStand ws m.b

-- what the walk over a section finds: whether it is well formed and sorted, and where it is well formed, marks
pub record HeadsFound (ws : List ℕ) (most : ℕ) (r : HeadsOrder) : Type 0 where
  pub order : OrderOf (is_some (headed (length ws) most ws)) (HeadsRise ws) r.order
  pub marks : is_some (headed (length ws) most ws) ≡ true → MarksStand ws r.marks

-- what a search is told of the section
pub record HeadsKnown (ws : List ℕ) (sorted : Bool) (m : Marks) : Type 0 where
  pub parses : is_some (headed (length ws) most_items ws) ≡ true
  pub marks : MarksStand ws m
  pub rise : sorted ≡ true → HeadsRise ws
