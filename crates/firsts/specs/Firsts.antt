-- The section of emoji sequences: whether it is sorted by first items, and records from which a search may start.
-- 02, Item 11: "which sections are sorted without overlap".
use Rattle.std.specs.Prelude.{ℕ, ◌≤◌, ◌<◌, ◌≡◌, Bool, true, not, ◌&&◌, List, [], ◌∷◌, ◌++◌, length, get_or, leb, eqb}
use Rattle.lists.specs.Lists.{is_some}
use Rattle.table.specs.Layout.{sequences}
use Rattle.table.specs.Part.{records_in, SequencesAt}
use Rattle.apart.specs.Order.{OrderOf}
use Rattle.place_marks.specs.declared.Four.{Four}
use Rattle.place_marks.specs.declared.Marks.{Marks}
use Rattle.firsts.specs.declared.Start.{Start}
use Rattle.firsts.specs.declared.FirstsOrder.{FirstsOrder}

-- FE0F, "each FE0F of the sequence being optional": a sequence that starts with it may match from its second item on
abbrev pub optional : ℕ
optional = 0xFE0F

-- the sequences that the words of a section hold
abbrev pub sequences_in : List ℕ → List (List ℕ)
sequences_in ws = records_in sequences ws

abbrev pub first_of : List ℕ → ℕ
first_of s = get_or s 0 0

-- the first items do not fall, the first is not below `floor`, and none is FE0F
unfoldable pub steady : ℕ → List (List ℕ) → Bool
steady floor [] = true
steady floor (s ∷ ss) = (leb floor (first_of s) && not (eqb (first_of s) optional)) && steady (first_of s) ss

abbrev pub FirstsSteady : List ℕ → Type 0
FirstsSteady ws = steady 0 (sequences_in ws) ≡ true

-- no sequence starts with e, or with FE0F
unfoldable pub Avoids : ℕ → List (List ℕ) → Type 0
Avoids e [] = Unit {0}
Avoids e (s ∷ ss) = (first_of s ≡ e → ⊥) × (first_of s ≡ optional → ⊥) × Avoids e ss

-- at a place stand the last sequences of the section, and so many stand before it
pub record SequencesFrom (ws : List ℕ) (at number : ℕ) : Type 0 where
  pub passed : List (List ℕ)
  pub left : List (List ℕ)
  pub split : sequences_in ws ≡ passed ++ left
  pub count : length passed ≡ number
  pub few : number ≤ at
  pub walk : SequencesAt ws at left

-- a mark is such a place with its number, or lies behind the words
abbrev pub Numbered : List ℕ → ℕ → ℕ → Type 0
Numbered ws at number = at < length ws → SequencesFrom ws at number

pub record FourNumbered (ws : List ℕ) (f g : Four) : Type 0 where
  pub p : Numbered ws f.p g.p
  pub q : Numbered ws f.q g.q
  pub r : Numbered ws f.r g.r
  pub s : Numbered ws f.s g.s

pub record MarksNumbered (ws : List ℕ) (places numbers : Marks) : Type 0 where
  pub a : FourNumbered ws places.a numbers.a
  pub b : FourNumbered ws places.b numbers.b

-- what the walk over the section finds: whether it is well formed and sorted, and where it is well formed, marks
pub record FirstsFound (ws : List ℕ) (r : FirstsOrder) : Type 0 where
  pub order : OrderOf (is_some (sequences (length ws) ws)) (FirstsSteady ws) r.order
  pub marks : is_some (sequences (length ws) ws) ≡ true → MarksNumbered ws r.places r.numbers

-- what a search is told of the section
pub record FirstsKnown (ws : List ℕ) (sorted : Bool) (places numbers : Marks) : Type 0 where
  pub parses : is_some (sequences (length ws) ws) ≡ true
  pub marks : MarksNumbered ws places numbers
  pub firsts : sorted ≡ true → FirstsSteady ws

-- where a search from e on may start: no sequence before it can match
pub record Passing (ws : List ℕ) (e : ℕ) (s : Start) : Type 0 where
  pub from : SequencesFrom ws s.place s.number
  pub avoids : Avoids e from.passed
