-- `laying::put_tags` meets its contract: the loop keeps the codepoints that are tagged.
use Rattle.laying.proofs.Tagging.{Tagging}
use Rattle.laying.proofs.put_tags.Given as goal

abbrev pub invariant-loop-i : goal.invariant-loop-i
invariant-loop-i l = Tagging l.initial.w l.from l.to l.first l.later l.w l.tag l.i
