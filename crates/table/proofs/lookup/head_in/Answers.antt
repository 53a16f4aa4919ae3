use native.Mathlib.Omega.{arith}
use Rattle.table.proofs.Searches.{head_start, head_here, head_hit, head_on, head_stop}
use Rattle.table.proofs.lookup.head_in.Goals as goal

pub loop-i-init : goal.loop-i-init
loop-i-init c = head_start _ _ c.requires

pub bounds-part-i : goal.bounds-part-i
bounds-part-i c =
    let p = c in
    omega (arith, (head_here _ _ p.loop-i.i p.loop-i.invariant (omega arith)).fits)

pub returns-then-part-i : goal.returns-then-part-i
returns-then-part-i c =
    let p = c in
    head_hit _ _ p.loop-i.i p.loop-i.invariant (omega arith) c.if-part-i.true

pub loop-i-preserved : goal.loop-i-preserved
loop-i-preserved c =
    let p = c in
    head_on _ _ p.loop-i.i p.loop-i.invariant (omega arith) c.if-part-i.false

pub returns : goal.returns
returns c = head_stop _ _ c.loop-i.i c.loop-i.invariant c.loop-i-test.false
