-- `write_bad`: the word with the end of its line.
use Rattle.line_writing.specs.Writing.{bad_line}
use borrow.Author.Rules.{rules}
use Rattle.line_writing.proofs.writing.write_bad.Goals as goal

pub returns : goal.returns
unfolding bad_line
returns c = search rules
