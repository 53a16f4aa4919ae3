-- What a line of the counter program is read as. 01, "Names at the counter": "one name a line as upper-case hex parted by single
-- spaces", "a line over 8,192 bytes or otherwise unreadable", "a number has 1 to 8 digits on input".
use Rattle.std.specs.Prelude.{ℕ, zero, suc, ◌+◌, ◌-◌, ◌*◌, ◌/◌, Bool, ◌&&◌, ◌||◌, cond, List, [], ◌∷◌, map, length, leb, eqb}
use Rattle.std.proofs.Math.Option.{Option, none, some}
use Rattle.lists.specs.Lists.{all, split}

-- "a line over 8,192 bytes or otherwise unreadable gives `bad`"
abbrev pub most_line : ℕ
most_line = 8192

-- The most numbers that a line of `most_line` bytes holds: n numbers "parted by single spaces" have at least 2 * n - 1 bytes.
abbrev pub most_numbers : ℕ
most_numbers = (most_line + 1) / 2

-- `0` to `9` and `A` to `F`
abbrev pub is_digit : ℕ → Bool
is_digit b = (leb 48 b && leb b 57) || (leb 65 b && leb b 70)

-- what a digit stands for
abbrev pub digit_value : ℕ → ℕ
digit_value b = cond (leb b 57) (b - 48) (b - 55)

-- digits in base 16, read on from the value v of those before them
abbrev pub value_from : ℕ → List ℕ → ℕ
value_from v [] = v
value_from v (b ∷ r) = value_from (16 * v + digit_value b) r

-- "A number has 1 to 8 digits"; leading zeros are taken
abbrev pub is_number : List ℕ → Bool
is_number word = (leb 1 (length word) && leb (length word) 8) && all is_digit word

-- the number that a word of the line spells
abbrev pub value_of : List ℕ → ℕ
value_of word = value_from 0 word

-- the numbers of the words between blanks, where each is a number
abbrev pub numbers_of : List (List ℕ) → Option (List ℕ)
numbers_of words = cond (all is_number words) (some (map value_of words)) none

-- "An empty line is the empty name"; else the words that single blanks part
unfoldable pub read_line : List ℕ → Option (List ℕ)
unfolding split
read_line [] = some []
read_line (b ∷ r) = let words = split 32 (b ∷ r) in cond (leb (length (b ∷ r)) most_line) (numbers_of words) none

-- the place of the first b, or the length where there is none
unfoldable pub first_at : ℕ → List ℕ → ℕ
first_at b [] = zero
first_at b (x ∷ s) = let later = first_at b s in cond (eqb x b) zero (suc later)
