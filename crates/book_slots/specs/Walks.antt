-- What the walks over the slots answer.
use Rattle.std.specs.Prelude.{ℕ, Bool, false, not, ◌&&◌, List, [], ◌∷◌, Some, None}
use Rattle.std.specs.Prelude as code
use Rattle.std.proofs.Math.Option.{Option, none, some}
use Rattle.lists.specs.Lists.{any}
use Rattle.book_slots.specs.Book.{Slot, is_free, name_of, has_name}

-- the number of a slot that is answered
abbrev pub place_is : code.Option ℕ → Option ℕ
place_is (Some i) = some i
place_is None = none

-- whether the first slot is filed and another has its name
unfoldable pub named_again : List Slot → Bool
unfolding has_name
named_again [] = false
named_again (s ∷ rest) = not (is_free s) && any (has_name (name_of s)) rest
