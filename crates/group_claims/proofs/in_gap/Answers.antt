-- `in_gap` meets its contract, by the law of two masks.
use native.Mathlib.Omega.{arith}
use borrow.Author.Tests.{eqb-false, not-true}
use Rattle.sorting.proofs.OrderLaws.{if_most}
use Rattle.group_claims.proofs.ClaimLaws.{gap_told}
use Rattle.group_claims.proofs.in_gap.Goals as goal

pub if_below-requires : goal.if_below-requires
if_below-requires c = omega arith

pub if_below-requires-2 : goal.if_below-requires-2
if_below-requires-2 c = omega (arith, if_most _ _ _ _ c.if_below.ensures)

pub returns : goal.returns
returns c = λ e. gap_told _ _ _ _ _ _ c.if_below.ensures c.if_below-2.ensures (eqb-false _ _ (not-true _ e))
