-- `write_numbers`: after n-index turns, so many numbers are written.
use Rattle.line_writing.proofs.Lines.{Numbering}
use Rattle.line_writing.proofs.writing.write_numbers.Given as goal

abbrev pub invariant-loop-n : goal.invariant-loop-n
invariant-loop-n l = Numbering l.numbers l.initial.out l.out l.at l.n-index
