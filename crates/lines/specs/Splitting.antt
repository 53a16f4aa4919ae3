-- How input is split into lines, whatever the pieces that it comes in. 01, "Names at the counter": "A line ends at byte 0A, which isn't
-- counted in its length, and the last one also at the end of input; nothing stands after a final 0A."
use Rattle.std.specs.Prelude.{ℕ, suc, cond, List, [], ◌∷◌, ◌++◌}
use Rattle.lists.specs.Lists.{is_empty, on_some, split}
use Rattle.line_reading.specs.Reading.{read_line}
use Rattle.line_writing.specs.Writing.{end_line, bad_line}

-- all parts but a last one that is empty
abbrev pub without_end : List (List ℕ) → List (List ℕ)
without_end [] = []
without_end (l ∷ []) = cond (is_empty l) [] (l ∷ [])
without_end (l ∷ m ∷ ls) = l ∷ without_end (m ∷ ls)

-- the lines of the input
unfoldable pub lines_of : List ℕ → List (List ℕ)
unfolding split
lines_of s = without_end (split 10 s)

-- What is written for the lines, n names being done: one line for each, as `reply` gives it for the name, and a last line; a line that
-- is unreadable "gives `bad` and the program stops there".
unfoldable pub output : (List ℕ → List ℕ) → ℕ → List (List ℕ) → List ℕ
unfolding read_line end_line bad_line
output reply n [] = end_line n
output reply n (l ∷ ls) = let later = output reply (suc n) ls in on_some (read_line l) (λ name. reply name ++ later) bad_line
