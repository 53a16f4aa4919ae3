-- The lines that the counter program writes. 01, "Names at the counter": the sample; "no leading zero on output"; "refusal, place and
-- the count of names after `end` are decimal".
use Rattle.std.specs.Prelude.{ℕ, ◌+◌, cond, List, [], ◌∷◌, ◌++◌, take, eqb}
use Rattle.lists.specs.Lists.{joined_map}
use Rattle.answers.specs.Values.{NameValues}
use Rattle.lists.specs.Text.{bytes}
use Rattle.numerals.specs.Numeral.{numeral}

-- a blank, then the number
unfoldable pub spaced : ℕ → ℕ → List ℕ
unfolding numeral
spaced base n = 32 ∷ numeral base n

-- the end of a line
abbrev pub newline : List ℕ
newline = 10 ∷ []

-- `ok`, then each codepoint in upper-case hex
unfoldable pub ok_line : List ℕ → List ℕ
unfolding spaced
ok_line answer = bytes "ok" ++ joined_map (spaced 16) answer ++ newline

-- `no`, the refusal and its place
unfoldable pub no_line : ℕ → ℕ → List ℕ
unfolding spaced
no_line number place = bytes "no" ++ spaced 10 number ++ spaced 10 place ++ newline

-- `end`, and the count of names
unfoldable pub end_line : ℕ → List ℕ
unfolding spaced
end_line names = bytes "end" ++ spaced 10 names ++ newline

-- `bad`
unfoldable pub bad_line : List ℕ
bad_line = bytes "bad" ++ newline

-- the line for what the name call answered, `buffer` being its answer buffer
unfoldable pub answer_line : NameValues → List ℕ → List ℕ
unfolding ok_line no_line
answer_line v buffer = cond (eqb v.number 0) (ok_line (take v.length buffer)) (no_line v.number v.place)

-- The longest lines of fixed words: a blank and a number of 64 bits have at most 21 bytes. proofs/Lines.antt shows it.
abbrev pub most_no_line : ℕ
most_no_line = 2 + 21 + 21 + 1

abbrev pub most_end_line : ℕ
most_end_line = 3 + 21 + 1
