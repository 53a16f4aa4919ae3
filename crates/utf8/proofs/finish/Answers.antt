-- `utf8::finish` meets its contract: each return is an arm of the end.
use mathlib.Core.Path.{refl}
use Rattle.utf8.proofs.Ends.{finish_over, finish_kept, finish_refused}
use Rattle.utf8.proofs.finish.Goals as goal

pub returns-then-count-answer : goal.returns-then-count-answer
returns-then-count-answer g c = finish_over c.in-Ok.is c.if-count-answer.true (c.fill.ensures.after c.requires.copies)

pub returns-else-count-answer : goal.returns-else-count-answer
returns-else-count-answer g c = finish_kept c.in-Ok.is c.if-count-answer.false (c.fill-in-Ok.ensures.after c.requires.copies) refl

pub returns-in-Err : goal.returns-in-Err
returns-in-Err g c = finish_refused c.in-Err.is (c.fill-in-Err.ensures.after c.requires.copies)
