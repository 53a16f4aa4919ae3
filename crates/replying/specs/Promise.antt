-- What the function of this crate promises.
use Rattle.std.specs.Prelude.{ℕ, ◌≡◌, List}
use Rattle.lists.specs.Lists.{is_some}
use Rattle.buffers.specs.Writes.{Writes}
use Rattle.line_reading.specs.Reading.{read_line}
use Rattle.replying.specs.Lines.{line_reply}
use Rattle.replying.specs.declared.Reply.{Reply}

-- what is due for the line stands in front, and the answer tells whether the line was readable
pub record Replies (words line before after : List ℕ) (r : Reply) : Type 0 where
  pub text : Writes (line_reply words line) before after r.length
  pub readable : r.readable ≡ is_some (read_line line)
