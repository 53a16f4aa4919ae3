use native.Mathlib.Omega.{arith}
use Rattle.table.proofs.GroupWalks.{group-room, next_more, next_inside}
use Rattle.compounds.proofs.CompoundLaws.{to_start, to_stop, to_here, to_on, list-told}
use Rattle.compounds.proofs.list_in.Goals as goal

pub loop-at-init : goal.loop-at-init
loop-at-init c = to_start _ _ c.requires

pub group_at-group-requires : goal.group_at-group-requires
group_at-group-requires c = group-room _ _ c.loop-at.at _ c.loop-at.invariant c.loop-at-test.true

pub returns-in_err-list : goal.returns-in_err-list
returns-in_err-list c = rw c.from_residual.ensures (rw c.in_err-list.was at (to_here _ _ c.loop-at.left c.loop-at.at c.loop-at.invariant c.loop-at-test.true _ c.group_at-group.ensures c.if-left-eq0.true)).1

pub of-requires : goal.of-requires
of-requires c = (rw c.in_ok-list.was at (to_here _ _ c.loop-at.left c.loop-at.at c.loop-at.invariant c.loop-at-test.true _ c.group_at-group.ensures c.if-left-eq0.true)).1.fits

pub returns-then-left-eq0 : goal.returns-then-left-eq0
returns-then-left-eq0 c = list-told _ _ _ c.of.result c.of.ensures (rw c.in_ok-list.was at (to_here _ _ c.loop-at.left c.loop-at.at c.loop-at.invariant c.loop-at-test.true _ c.group_at-group.ensures c.if-left-eq0.true)).1

pub loop-at-smaller : goal.loop-at-smaller
loop-at-smaller c =
    omega (arith, next_more _ _ c.loop-at.at _ c.loop-at.invariant c.loop-at-test.true _ c.group_at-group.ensures, next_inside _ _ c.loop-at.at _ c.loop-at.invariant c.loop-at-test.true _ c.group_at-group.ensures)

pub loop-at-preserved : goal.loop-at-preserved
loop-at-preserved c =
    to_on _ _ c.loop-at.left c.loop-at.at c.loop-at.invariant c.loop-at-test.true _ c.group_at-group.ensures c.if-left-eq0.false

pub returns : goal.returns
returns c = to_stop _ _ c.loop-at.left c.loop-at.at c.loop-at.invariant c.loop-at-test.false
