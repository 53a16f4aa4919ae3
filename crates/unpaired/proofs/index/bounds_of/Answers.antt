-- `bounds_of` meets its contract.
use native.Mathlib.Omega.{arith}
use mathlib.Core.Path.{sym, ◌∙◌}
use borrow.Author.Tests.{not-true, not-false}
use Rattle.unpaired.proofs.Asking.{bounds_all, bounds_none, bounds_slot}
use Rattle.unpaired.proofs.index.bounds_of.Goals as goal

pub returns-then-not-has : goal.returns-then-not-has
returns-then-not-has c = λ t u e. bounds_all t _ _ _ u _ e

pub returns-then-not-has-2 : goal.returns-then-not-has-2
returns-then-not-has-2 c =
    λ t u e. bounds_none t _ _ _ u (sym c.has.ensures ∙ not-false _ c.if-not-has.false-raw) (sym c.has-2.ensures ∙ not-true _ c.if-not-has-2.true-raw)

pub overflow_cast-result-2 : goal.overflow_cast-result-2
overflow_cast-result-2 c = omega (arith, c.type_inv.unpaired c.slot_of-k.result)

pub returns : goal.returns
returns c = λ t u e. bounds_slot t _ _ _ u (sym c.has.ensures ∙ not-false _ c.if-not-has.false-raw) _ c.slot_of-k.ensures.0
