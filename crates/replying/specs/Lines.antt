-- What the counter program writes for a line of input. 01, "Names at the counter".
use Rattle.std.specs.Prelude.{ℕ, ◌+◌, ◌*◌, List}
use Rattle.limits.specs.Limits.{most_worked, least_work}
use Rattle.lists.specs.Lists.{on_some}
use Rattle.name.specs.Name.{name_call}
use Rattle.line_reading.specs.Reading.{read_line}
use Rattle.line_writing.specs.Writing.{answer_line, bad_line, most_no_line}

-- The line for a name. "Its answer buffer has as many words as the worked length may reach"; the work area has as many as 2 asks for.
unfoldable pub reply_line : List ℕ → List ℕ → List ℕ
unfolding name_call answer_line
reply_line words name = let r = name_call 0 words name most_worked least_work in answer_line r.values r.answer

-- What is written for a line of input: the line for its name, or `bad` where it is unreadable.
unfoldable pub line_reply : List ℕ → List ℕ → List ℕ
unfolding read_line reply_line bad_line
line_reply words line = on_some (read_line line) (λ name. reply_line words name) bad_line

-- room for that line, at 9 bytes a codepoint
abbrev pub reply_room : ℕ
reply_room = 9 * most_worked + most_no_line
