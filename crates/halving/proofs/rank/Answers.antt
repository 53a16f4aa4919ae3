use Rattle.std.proofs.Common.{◌/◌, arith}
use Rattle.halving.proofs.Halves.{if_most_least, halving_on, halving_stop}
use Rattle.halving.proofs.rank.Goals as goal

pub overflow_add-low : goal.overflow_add-low
overflow_add-low c =
    let p = c.loop-n in
    omega (arith, if_most_least _ _ _ _ c.if_most-low.ensures)

pub loop-n-preserved : goal.loop-n-preserved
loop-n-preserved c =
    let p = c.loop-n in
    halving_on _ _ _ _ _ p.invariant (p.n / 2) (omega arith) (omega arith) _ c.if_most-low.ensures

pub overflow_add-result : goal.overflow_add-result
overflow_add-result c = omega (arith, if_most_least _ _ _ _ c.if_most.ensures)

pub returns : goal.returns
returns c =
    let p = c.loop-n in
    halving_stop _ _ _ _ _ p.invariant c.loop-n-test.false _ c.if_most.ensures
