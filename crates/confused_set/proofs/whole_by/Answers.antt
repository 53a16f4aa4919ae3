-- `whole_by` meets its contract: a clear bit answers, or the wholes are walked.
use native.Mathlib.Omega.{arith}
use mathlib.Core.Path.{sym, ◌∙◌}
use borrow.Author.Tests.{not-true}
use Rattle.confused_set.proofs.FilterLaws.{clear_found}
use Rattle.confused_set.proofs.whole_by.Goals as goal

pub has-requires : goal.has-requires
has-requires c = omega (arith, c.requires.filter.size)

pub returns-then-not-has : goal.returns-then-not-has
returns-then-not-has c = clear_found _ _ _ _ c.requires.filter (sym c.has.ensures ∙ not-true _ c.if-not-has.true-raw)
