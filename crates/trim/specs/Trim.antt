-- Trimmed input (02, Item 4): "Give back the part of the caller's slice that remains when 9, A, D and 20 are taken off both ends, and
-- nothing off the middle. An input of blanks gives an empty part."
use Rattle.std.specs.Prelude.{ℕ, ◌≡◌, Bool, List, [], ◌∷◌, reverse, length}
use Rattle.lists.specs.Lists.{mem, drop_with, take_with}

-- "9, A, D and 20"
unfoldable pub is_blank : ℕ → Bool
is_blank c = mem c (0x9 ∷ 0xA ∷ 0xD ∷ 0x20 ∷ [])

-- the blanks at the front taken off
unfoldable pub off_front : List ℕ → List ℕ
off_front s = drop_with is_blank s

-- the blanks at the back taken off: they are the front of the list read backwards
unfoldable pub off_back : List ℕ → List ℕ
off_back s = reverse (off_front (reverse s))

-- "the part .. that remains": the front first, then the back
unfoldable pub remaining : List ℕ → List ℕ
remaining s = off_back (off_front s)

-- where it starts: behind the blanks at the front, for an input of blanks at its end
unfoldable pub start_of : List ℕ → ℕ
start_of s = length (take_with is_blank s)

-- the start and the length of the part of `input` that remains
pub record Remains (input : List ℕ) (start n : ℕ) : Type 0 where
  pub starts : start ≡ start_of input
  pub long : n ≡ length (remaining input)
