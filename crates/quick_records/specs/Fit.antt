-- What is asked of a decomposition for rules 7 and 8, and what the code keeps while it asks.
use Rattle.std.specs.Prelude.{ℕ, ◌+◌, ◌≤◌, ◌<◌, ◌≡◌, Bool, true, false, length}
use mathlib.Core.List.{List, Memᴰ}
use Rattle.lists.specs.Lists.{mem}
use Rattle.table.specs.Table.{Table, Headed}
use Rattle.table.specs.Lookup.{in_quick_check}
use Rattle.table.specs.Part.{in_pairs, heads_in}
use Rattle.text.specs.Decomposition.{class_of}
use Rattle.text.specs.Ordering.{out_of_order}
use Rattle.text.specs.Composition.{is_pair}
use Rattle.text.specs.QuickCheck.{second_item}
use Rattle.heads.specs.Heads.{rising}
use Rattle.sections.specs.declared.Sections.{Sections}
use Rattle.soundness.specs.Pairs.{plain_head}
use Rattle.sound_parts.specs.Parts.{Holds, as_headed}
use Rattle.unpaired.specs.Unpaired.{may_compose}
use Rattle.quick_local.specs.Local.{is_head, Levels, SecondFits, OuterFits}
use Rattle.quick_filters.specs.Filter.{filter_words, holds}
use Rattle.quick_filters.specs.Slot.{most_looked}
use Rattle.quick_levels.specs.Walk.{Each, Few, Apart, Indexed}
use Rattle.quick_seconds.specs.Seconds.{Good, HeadsHeld}
use Rattle.quick_records.specs.declared.Lent.{Lent}

-- the words of the decompositions, and of the quick-check set
pub record PartOf (t : Table) (part : List ℕ) : Type 0 where
  pub holds : Holds as_headed part
  pub are : heads_in part ≡ t.decompositions
  pub short : length part ≤ most_looked

abbrev pub SetOf : Table → List ℕ → Type 0
SetOf t set = (c : ℕ) → in_pairs c set ≡ in_quick_check t c

-- nothing is said of c but by decompositions
pub record ClearOf (t : Table) (c : ℕ) : Type 0 where
  pub excluded : mem c t.exclusions ≡ false
  pub class : class_of t c ≡ 0
  pub outside : in_quick_check t c ≡ false

pub record Cleared (t : Table) (set : List ℕ) : Type 0 where
  pub room : length set ≡ filter_words
  pub clear : (c : ℕ) → holds set c ≡ false → ClearOf t c

-- b is in order behind the second item of what a decomposes to
abbrev pub Behind : Table → ℕ → ℕ → Type 0
Behind t a b = (q : Headed) → Memᴰ q t.decompositions → q.head ≡ a → out_of_order t (second_item q.items) b ≡ false

-- the index of the decompositions by their heads
pub record ByHead (t : Table) (part slots : List ℕ) : Type 0 where
  pub of : PartOf t part
  pub index : Indexed part 0 slots
  pub rises : rising 0 t.decompositions ≡ true
  pub few : Each Few t.decompositions
  pub zero : class_of t 0 ≡ 0

-- what the walk over the decompositions is lent is theirs
pub record Lending (t : Table) (lent : Lent) : Type 0 where
  pub by_head : ByHead t lent.part.now lent.index.now
  pub heads : HeadsHeld t lent.heads.now
  pub cleared : Cleared t lent.said.now

-- the head and the first item of a composition pair, of which the first item is outside the set
pub record Composing (t : Table) (head a : ℕ) : Type 0 where
  pub pair : may_compose t head a ≡ true
  pub outside : in_quick_check t a ≡ false

-- what rules 7 and 8 ask of a decomposition whose head is known to be in the set, or not
pub record RecordFits (t : Table) (inside : Bool) (x : Headed) : Type 0 where
  pub second : is_pair t x ≡ true → SecondFits t (second_item x.items)
  pub outer : inside ≡ false → OuterFits t x

pub record RecordAsked (t : Table) (good : List ℕ) (inside : Bool) (x : Headed) (r : Bool) : Type 0 where
  pub kept : Good t good
  pub fits : r ≡ true → RecordFits t inside x

-- and of each
pub record Fitting (t : Table) (x : Headed) : Type 0 where
  pub second : is_pair t x ≡ true → SecondFits t (second_item x.items)
  pub outer : in_quick_check t x.head ≡ false → OuterFits t x

-- the sections that are looked at
pub record Looked (ix : Sections) : Type 0 where
  pub sorted : ix.sorted.decompositions ≡ true
  pub some : ix.quick.from < ix.quick.to
  pub short : ix.decompositions.to ≤ ix.decompositions.from + most_looked

-- every V and every T jamo is in the set
pub record JamoHeld (set : List ℕ) : Type 0 where
  pub vowels : (c : ℕ) → 0x1161 ≤ c → c ≤ 0x1175 → in_pairs c set ≡ true
  pub trailing : (c : ℕ) → 0x11A8 ≤ c → c ≤ 0x11C2 → in_pairs c set ≡ true

-- what `Local` asks of decompositions
pub record Decomposed (t : Table) : Type 0 where
  pub plain : Each (λ x. plain_head x.head ≡ true) t.decompositions
  pub levels : Levels t.decompositions (is_head t)
  pub once : Apart 2 t.decompositions
  pub fit : Each (Fitting t) t.decompositions
