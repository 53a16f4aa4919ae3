-- What is seen of a section: whether it is well formed, and whether it is sorted.
use Rattle.std.specs.Prelude.{ℕ, ◌≡◌, Bool, true, List}
use Rattle.lists.specs.Lists.{is_some}
use Rattle.table.specs.Layout.{ranges}
use Rattle.apart.specs.Apart.{Apart}
use Rattle.group_sizes.specs.declared.Seen.{Seen}

-- it is seen whether the section is well formed, and where it is, whether it is sorted
pub record Sees (well_formed : Bool) (Ascending : Type 0) (r : Seen) : Type 0 where
  pub fits : r.fits ≡ well_formed
  pub sorted : r.sorted ≡ true → Ascending
  pub found : well_formed ≡ true → Ascending → r.sorted ≡ true

abbrev pub SeesPairs : List ℕ → Seen → Type 0
SeesPairs part = Sees (is_some (ranges part)) (Apart 2 1 part)
