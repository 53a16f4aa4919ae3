-- One line of the report. 02, Item 9: "a line per token, ended by 0A: `text` or `emoji`, start, end .., then its codepoints (NFC or stripped) in
-- upper-case hex, all parted by single spaces and with decimal places. Codepoints in the table's new should-escape section (pairs) are put
-- in braces."
use Rattle.std.specs.Prelude.{ℕ, Bool, cond, List, [], ◌∷◌, ◌++◌}
use Rattle.lists.specs.Lists.{joined_map}
use Rattle.lists.specs.Text.{bytes}
use Rattle.numerals.specs.Numeral.{numeral}
use Rattle.table.specs.Table.{Table}
use Rattle.table.specs.Lookup.{should_escape}

-- "`text` or `emoji`"
abbrev pub kind_word : Bool → List ℕ
kind_word emoji = cond emoji (bytes "emoji") (bytes "text")

-- "all parted by single spaces": one stands before each part but the first
abbrev pub spaced : List ℕ → List ℕ
spaced s = 32 ∷ s

-- a codepoint "in upper-case hex"; those that should be escaped "are put in braces"
unfoldable pub shown : Table → ℕ → List ℕ
unfolding numeral
shown t c = cond (should_escape t c) (bytes "{" ++ numeral 16 c ++ bytes "}") (numeral 16 c)

-- the codepoints of a token; an empty token has none, and no space
unfoldable pub shown_all : Table → List ℕ → List ℕ
unfolding shown
shown_all t s = joined_map (λ c. spaced (shown t c)) s

-- a line "ended by 0A"; "with decimal places"
unfoldable pub line_of : Table → Bool → ℕ → ℕ → List ℕ → List ℕ
unfolding shown_all numeral
line_of t emoji start end s = kind_word emoji ++ spaced (numeral 10 start) ++ spaced (numeral 10 end) ++ shown_all t s ++ (10 ∷ [])
