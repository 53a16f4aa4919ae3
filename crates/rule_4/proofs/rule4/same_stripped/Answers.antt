use Rattle.rule_4.proofs.StripLaws.{align_start, align_short, align_differ, align_on, align_done}
use native.Mathlib.Omega.{arith}
use Rattle.rule_4.proofs.rule4.same_stripped.Goals as goal

pub next_item-i-requires : goal.next_item-i-requires
next_item-i-requires c = c.shared-k.ensures.left

pub next_item-j-requires : goal.next_item-j-requires
next_item-j-requires c = c.shared-k.ensures.right

pub loop-i-init : goal.loop-i-init
loop-i-init c =
    align_start _ _ c.next_item-i.result c.next_item-j.result c.shared-k.result c.shared-k.ensures.same c.next_item-i.ensures c.next_item-j.ensures

pub returns-then-b-j : goal.returns-then-b-j
returns-then-b-j c = align_short _ _ c.loop-i.i c.loop-i.j c.loop-i.invariant c.loop-i-test.true c.if-b-j.true

pub returns-then-a-i : goal.returns-then-a-i
returns-then-a-i c = align_differ _ _ c.loop-i.i c.loop-i.j c.loop-i.invariant c.loop-i-test.true c.if-b-j.false c.if-a-i.true

pub loop-i-smaller : goal.loop-i-smaller
loop-i-smaller c = omega (arith, c.next_item-i-in-loop-i.ensures.low)

pub loop-i-preserved : goal.loop-i-preserved
loop-i-preserved c =
    align_on _ _ c.loop-i.i c.loop-i.j c.loop-i.invariant c.loop-i-test.true c.if-b-j.false c.next_item-i-in-loop-i.result c.next_item-j-in-loop-i.result c.if-a-i.false c.next_item-i-in-loop-i.ensures c.next_item-j-in-loop-i.ensures

pub returns : goal.returns
returns c = align_done _ _ c.loop-i.i c.loop-i.j c.loop-i.invariant c.loop-i-test.false
