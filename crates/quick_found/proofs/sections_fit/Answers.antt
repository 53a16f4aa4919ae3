-- `sections_fit` meets its contract.
use Rattle.lists.specs.Tests.{never}
use mathlib.Core.Bool.{true}
use mathlib.Core.Path.{refl, sym}
use borrow.Author.Tests.{not-false}
use Rattle.quick_found.proofs.sections_fit.Goals as goal

pub returns-then-not-holds_jamo : goal.returns-then-not-holds_jamo
returns-then-not-holds_jamo c = λ e. never true refl (sym e)

pub returns : goal.returns
returns c = λ e. (c.holds_jamo.ensures (not-false _ c.if-not-holds_jamo.false-raw), c.decompositions_fit.ensures e)
