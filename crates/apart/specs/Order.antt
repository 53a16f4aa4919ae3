-- How the entries of a section stand. 02, Item 11: "which sections are sorted without overlap".
use Rattle.std.specs.Prelude.{◌≡◌, Bool, true, false, not}
use Rattle.apart.specs.declared.Order.{Order}
use Rattle.apart.specs.declared.Order.TheVariants.{Fault, AsGiven, Sorted}

abbrev pub is_fault : Order → Bool
is_fault Fault = true
is_fault AsGiven = false
is_fault Sorted = false

abbrev pub is_sorted : Order → Bool
is_sorted Fault = false
is_sorted AsGiven = false
is_sorted Sorted = true

-- what a walk over a section answers: a fault exactly where the words do not fit, and of words that fit, sorted exactly where they are
pub record OrderOf (fits : Bool) (Ascending : Type 0) (r : Order) : Type 0 where
  pub fault : is_fault r ≡ not fits
  pub sorted : is_sorted r ≡ true → Ascending
  pub found : fits ≡ true → Ascending → is_sorted r ≡ true
