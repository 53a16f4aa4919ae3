-- `read_number`: after b-index turns, so many digits are passed.
use Rattle.line_reading.proofs.Digits.{Spelling}
use Rattle.line_reading.proofs.reading.read_number.Given as goal

abbrev pub invariant-loop-b : goal.invariant-loop-b
invariant-loop-b l = Spelling l.word l.b-index l.value
