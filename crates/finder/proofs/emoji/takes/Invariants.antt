-- `finder::emoji::takes` meets its contract: the loop keeps what the sequence takes of the rest, and what is left to match.
use Rattle.finder.proofs.Taking.{Walk}
use Rattle.finder.proofs.emoji.takes.Given as goal

abbrev pub invariant-loop-i : goal.invariant-loop-i
invariant-loop-i l = Walk l.seq l.rest l.i l.at
