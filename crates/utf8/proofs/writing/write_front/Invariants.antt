-- `utf8::writing::write_front` meets its contract: the codepoints before i are written.
use Rattle.utf8.proofs.Loops.{Writing}
use Rattle.utf8.proofs.writing.write_front.Given as goal

abbrev pub invariant-loop-i : goal.invariant-loop-i
invariant-loop-i l = Writing l.codepoints l.initial.answer l.answer l.n l.i
