use native.Mathlib.Omega.{arith}
use mathlib.Core.Path.{ap}
use lib.ListN.{length}
use Rattle.records.proofs.LeftLaws.{heads_more, heads_none, heads-empty}
use Rattle.records.proofs.HeadsIterator.next.Goals as goal

pub returns-in_err-head-clause-steps : goal.returns-in_err-head-clause-steps
returns-in_err-head-clause-steps c =
    let none = heads-empty _ c.in_err-head.ensures.cases in
    rw c.from_residual.ensures (none, none)

pub returns-in_err-items-clause-steps : goal.returns-in_err-items-clause-steps
returns-in_err-items-clause-steps c =
    let none = heads_none _ _ _ c.in_ok-head.ensures.cases.0 c.in_err-items.ensures in
    rw c.from_residual-in_err-items.ensures (none, none)

pub returns-clause-steps : goal.returns-clause-steps
returns-clause-steps c = heads_more _ _ _ _ _ c.in_ok-head.ensures.cases.0 c.in_ok-items.ensures

pub returns-clause-goes : goal.returns-clause-goes
returns-clause-goes c =
    let e = ap length (heads_more c.args.self.now.part.now _ _ _ _ c.in_ok-head.ensures.cases.0 c.in_ok-items.ensures) in
    record { on = λ f. (tt, tt, omega (arith, e)); keeps = tt; rests = λ f. tt }
