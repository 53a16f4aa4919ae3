-- `section_places::span_at` meets its contract. Both tests are those of the definition, and past the end of the words no count is read.
use native.Mathlib.Omega.{arith}
use Rattle.sections.proofs.SectionLaws.{span_there, span_none}
use Rattle.section_places.proofs.span_at.Goals as goal
use Rattle.section_places.proofs.span_at.Goals.{else-at-words, then-at-words+else-n-words}

pub overflow_cast-n : goal.overflow_cast-n
overflow_cast-n c = omega (arith, c.type_inv.words c.args.at)

pub returns-then-n-words : goal.returns-then-n-words
returns-then-n-words c = span_there _ _ (omega arith) (omega arith)

pub returns : goal.returns
returns c = (elim c.if-at-words.branch [ then-at-words+else-n-words w ↦ span_none _ _ (omega arith) | else-at-words w ↦ span_none _ _ (omega arith) ])
