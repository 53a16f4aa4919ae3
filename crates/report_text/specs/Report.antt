-- The bytes of the report. 02, Item 9: "a report into a lent byte buffer, a line per token, ended by 0A: `text` or `emoji`, start, end (the
-- place after its last; both in the whole name), then its codepoints (NFC or stripped) in upper-case hex, all parted by single spaces and
-- with decimal places. Codepoints in the table's new should-escape section (pairs) are put in braces."
use Rattle.std.specs.Prelude.{ℕ, ◌+◌, List, [], ◌∷◌, ◌++◌, length}
use Rattle.lists.specs.Lists.{joined_map}
use Rattle.table.specs.Table.{Table}
use Rattle.tokens.specs.Tokens.{is_emoji, codepoints, normal_token}
use Rattle.places.specs.Places.{Placed, bare, placed}
use Rattle.name.specs.Name.{labels_of}
use Rattle.report_lines.specs.Lines.{line_of}

-- the line of a token: "its codepoints (NFC or stripped)"
unfoldable pub line : Table → Placed → List ℕ
unfolding line_of normal_token
line t x = line_of t (is_emoji (bare x)) x.start x.end (codepoints (normal_token t (bare x)))

-- "a line per token": those of a label that starts at `start` of the name
unfoldable pub label_lines : Table → ℕ → List ℕ → List ℕ
unfolding line placed
label_lines t start l = joined_map (line t) (placed t start l)

-- those of labels, the first of which starts at `start`; a stop stands between two
unfoldable pub lines : Table → ℕ → List (List ℕ) → List ℕ
unfolding label_lines
lines t start [] = []
lines t start (l ∷ ls) = label_lines t start l ++ lines t (start + length l + 1) ls

-- the report of a name
unfoldable pub report : Table → List ℕ → List ℕ
unfolding lines labels_of
report t name = lines t 0 (labels_of name)
