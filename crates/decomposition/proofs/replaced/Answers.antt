use mathlib.Core.Path.{refl, sym}
use native.Mathlib.Omega.{arith}
use Rattle.decomposition.proofs.Replacing.{by_none, copy_start, copy_more, copied}
use Rattle.decomposition.proofs.replaced.Goals as goal

pub returns-then-n-eq0 : goal.returns-then-n-eq0
returns-then-n-eq0 c =
    let k = c in
    let o = k in
    record { is = sym (by_none _ _ _ _ o.single-by.ensures _ k.count-n.ensures c.if-n-eq0.true); few = omega arith; whole = refl }

pub loop-i-init : goal.loop-i-init
loop-i-init c = copy_start _

pub item-requires : goal.item-requires
item-requires c =
    let k = c in
    (k.single-by.ensures.fits, omega (arith, k.count-n.ensures))

pub loop-i-preserved : goal.loop-i-preserved
loop-i-preserved c =
    let l = c in
    let k = l in
    copy_more _ _ _ l.loop-i.invariant (omega (arith, k.count-n.ensures)) k.single-by.ensures.few _ c.item.ensures

pub returns : goal.returns
returns c =
    let l = c in
    let k = l in
    copied _ _ _ _ _ _ _ k.single-by.ensures k.count-n.ensures l.if-n-eq0.false l.loop-i.invariant c.loop-i-test.false
