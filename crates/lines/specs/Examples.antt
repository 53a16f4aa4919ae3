-- The definitions on lines and inputs of each kind.
use Rattle.std.specs.Prelude.{ℕ, ◌≡◌, refl, List, [], ◌∷◌, ◌++◌, map, replicate}
use Prim.Native.String.{String}
use Rattle.std.proofs.Math.Option.{none, some}
use Rattle.lists.specs.Lists.{joined}
use Rattle.lists.specs.Text.{bytes}
use Rattle.line_reading.specs.Reading.{read_line}
use Rattle.line_writing.specs.Writing.{ok_line, no_line, end_line, bad_line}
use Rattle.lines.specs.Splitting.{lines_of, output}

-- lines that can be read: the empty one, leading zeros up to 8 digits, the largest number
abbrev readable : List String
readable = "" ∷ "5F 24 41" ∷ "0" ∷ "00000061" ∷ "FFFFFFFF 0 A" ∷ []

pub these_are_read : map (λ s. read_line (bytes s)) readable ≡
    some [] ∷ some (0x5F ∷ 0x24 ∷ 0x41 ∷ []) ∷ some (0 ∷ []) ∷ some (0x61 ∷ []) ∷ some (0xFFFFFFFF ∷ 0 ∷ 0xA ∷ []) ∷ []
unfolding read_line
these_are_read = refl

-- lines that cannot: 9 digits, lower case, blanks in front, behind or doubled, a lone blank, a carriage return, a tab, other signs
abbrev unreadable : List String
unreadable = "000000061" ∷ "5f" ∷ " 61" ∷ "61 " ∷ "61  62" ∷ " " ∷ "61\r" ∷ "61\t62" ∷ "G" ∷ "@" ∷ "/" ∷ ":" ∷ "+61" ∷ "0x61" ∷ []

pub these_are_not : map (λ s. read_line (bytes s)) unreadable ≡ map (λ s. none) unreadable
unfolding read_line
these_are_not = refl

-- lines that are written
pub lines-written : ok_line [] ∷ ok_line (0x5F ∷ 0x24 ∷ 0x61 ∷ []) ∷ no_line 6 1 ∷ end_line 2 ∷ bad_line ∷ [] ≡
    map bytes ("ok\n" ∷ "ok 5F 24 61\n" ∷ "no 6 1\n" ∷ "end 2\n" ∷ "bad\n" ∷ [])
unfolding ok_line no_line end_line bad_line
lines-written = refl

-- the lines of an input: none, one that is empty, one with and without its 0A, two
pub splits : map (λ s. lines_of (bytes s)) ("" ∷ "\n" ∷ "61" ∷ "61\n" ∷ "\n\n" ∷ "61\n\n62" ∷ []) ≡
    [] ∷ ([] ∷ []) ∷ (bytes "61" ∷ []) ∷ (bytes "61" ∷ []) ∷ ([] ∷ [] ∷ []) ∷ (bytes "61" ∷ [] ∷ bytes "62" ∷ []) ∷ []
unfolding lines_of
splits = refl

-- whole outputs, each name being answered by itself: the program stops at a line that is unreadable, with no last line
pub outputs : map (λ s. output ok_line 0 (lines_of (bytes s))) ("" ∷ "\n" ∷ "61" ∷ "61\n62\n" ∷ "61\nx\n62\n" ∷ []) ≡
    map bytes ("end 0\n" ∷ "ok\nend 1\n" ∷ "ok 61\nend 1\n" ∷ "ok 61\nok 62\nend 2\n" ∷ "ok 61\nbad\n" ∷ [])
unfolding output lines_of ok_line
outputs = refl

-- 2,730 numbers with a blank behind each, and one more number of two digits, are 8,192 bytes and can be read; with a third digit they
-- are one more, and cannot
abbrev longest : String → List ℕ
longest last = joined (replicate 2730 (bytes "61 ")) ++ bytes last

pub just_read : read_line (longest "62") ≡ some (replicate 2730 0x61 ++ (0x62 ∷ []))
unfolding read_line
just_read = refl

pub too_long : read_line (longest "623") ≡ none
unfolding read_line
too_long = refl
