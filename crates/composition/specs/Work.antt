-- What the functions of this crate ask for and answer, over a table.
use Rattle.std.specs.Prelude.{ℕ, zero, suc, ◌≤◌, ◌≡◌, Bool, true, ◌||◌, cond, List, [], ◌∷◌, map, length, take, ltb, eqb}
use Rattle.table.specs.Table.{Table}
use Rattle.text.specs.Decomposition.{class_of}
use Rattle.ordering.specs.Sorting.{in_order}
use Rattle.text.specs.Composition.{compose}

-- behind marks of which the last and greatest has the class `last`, 0 where there are none, a codepoint of class k is not blocked
abbrev pub free : ℕ → ℕ → Bool
free last k = eqb last 0 || ltb last k

-- the number of classes before the first 0
unfoldable pub leading : List ℕ → ℕ
leading [] = zero
leading (k ∷ ks) = let n = leading ks in cond (eqb k 0) zero (suc n)

-- the classes ks beside the text d are its own, and it is in canonical order
pub record Ready (t : Table) (d ks : List ℕ) : Type 0 where
  pub classes : ks ≡ map (class_of t) d
  pub ordered : in_order 0 ks ≡ true

-- d is composed into the first r places of the text
pub record ComposedInto (t : Table) (d text : List ℕ) (r : ℕ) : Type 0 where
  pub count : r ≡ length (compose t d)
  pub front : take r text ≡ compose t d
  pub same : length text ≡ length d
  pub room : r ≤ length d
