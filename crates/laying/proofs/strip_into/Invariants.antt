-- `laying::strip_into` meets its contract: the loop keeps what is left of the codepoints read.
use Rattle.laying.proofs.Stripping.{Stripping}
use Rattle.laying.proofs.strip_into.Given as goal

abbrev pub invariant-loop-c : goal.invariant-loop-c
invariant-loop-c l = Stripping l.seq l.initial.out l.at l.out l.to l.c-index
