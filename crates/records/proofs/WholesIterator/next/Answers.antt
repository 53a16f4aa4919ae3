use native.Mathlib.Omega.{arith}
use mathlib.Core.Path.{ap}
use lib.ListN.{length}
use Rattle.records.proofs.LeftLaws.{wholes_more, wholes_none, wholes_broken}
use Rattle.records.proofs.WholesIterator.next.Goals as goal

pub returns-in_err-valid-clause-steps : goal.returns-in_err-valid-clause-steps
returns-in_err-valid-clause-steps c =
    let none = wholes_none _ c.in_err-valid.ensures in
    rw c.from_residual.ensures (none, none)

pub returns-in_err-confused-clause-steps : goal.returns-in_err-confused-clause-steps
returns-in_err-confused-clause-steps c =
    let none = wholes_broken _ _ _ c.in_ok-valid.ensures c.in_err-confused.ensures in
    rw c.from_residual-in_err-confused.ensures (none, none)

pub returns-clause-steps : goal.returns-clause-steps
returns-clause-steps c = wholes_more _ _ _ _ _ c.in_ok-valid.ensures c.in_ok-confused.ensures

pub returns-clause-goes : goal.returns-clause-goes
returns-clause-goes c =
    let e = ap length (wholes_more _ _ _ _ _ c.in_ok-valid.ensures c.in_ok-confused.ensures) in
    record { on = λ f. (tt, tt, omega (arith, e)); keeps = tt; rests = λ f. tt }
