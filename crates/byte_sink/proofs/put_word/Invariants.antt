-- `put_word`: after a number of turns that many bytes are put.
use Rattle.byte_sink.proofs.Adding.{Wording}
use Rattle.byte_sink.proofs.put_word.Given as goal

abbrev pub invariant-loop-b : goal.invariant-loop-b
invariant-loop-b l = Wording l.word l.initial.out l.out l.initial.r l.r l.b-index
