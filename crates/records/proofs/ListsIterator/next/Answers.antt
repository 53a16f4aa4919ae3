use native.Mathlib.Omega.{arith}
use mathlib.Core.Path.{ap}
use lib.ListN.{length}
use Rattle.records.proofs.LeftLaws.{lists_more, lists_none}
use Rattle.records.proofs.ListsIterator.next.Goals as goal

pub returns-in_err-items-clause-steps : goal.returns-in_err-items-clause-steps
returns-in_err-items-clause-steps c = rw c.from_residual.ensures (lists_none _ c.in_err-items.ensures, lists_none _ c.in_err-items.ensures)

pub returns-clause-steps : goal.returns-clause-steps
returns-clause-steps c = lists_more _ _ _ c.in_ok-items.ensures

pub returns-clause-goes : goal.returns-clause-goes
returns-clause-goes c =
    let e = ap length (lists_more _ _ _ c.in_ok-items.ensures) in
    record { on = λ f. (tt, tt, omega (arith, e)); keeps = tt; rests = λ f. tt }
