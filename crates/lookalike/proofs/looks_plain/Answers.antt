-- `lookalike::looks_plain` meets its contract: no character is confused, or no group is left.
use mathlib.Core.Path.{sym, ◌∙◌}
use mathlib.Core.Bool.{false≢true}
use borrow.Author.Tests.{not-true}
use Rattle.sections.proofs.SectionLaws.{laid-fits}
use Rattle.lookalike.proofs.RespellingLaws.{unconfused}
use Rattle.lookalike.proofs.looks_plain.Goals as goal

pub returns-then-text-lt2 : goal.returns-then-text-lt2
returns-then-text-lt2 c = λ e. absurd (false≢true e)

pub overflow_sub-wholes : goal.overflow_sub-wholes
overflow_sub-wholes c = (laid-fits _ _ c.requires.laid).wholes.ordered

pub returns-then-not-sorted : goal.returns-then-not-sorted
returns-then-not-sorted c = λ e. absurd (false≢true e)

pub returns-then-not-any_confused : goal.returns-then-not-any_confused
returns-then-not-any_confused c = λ _. unconfused _ _ (sym c.any_confused.ensures ∙ not-true _ c.if-not-any_confused.true-raw)

pub returns-else-not-any_confused : goal.returns-else-not-any_confused
returns-else-not-any_confused c = c.ruled_out.ensures
