use native.Mathlib.Omega.{arith}
use lib.Seq.{set-get_or}
use Rattle.group_numbers.proofs.NumberLaws.{relabel_start, relabel_stop, relabel_put, relabel_leave}
use Rattle.group_numbers.proofs.relabel.Goals as goal
use Rattle.group_numbers.proofs.relabel.Goals.{else-x-a, then-x-a}

pub loop-x-init : goal.loop-x-init
loop-x-init c = relabel_start _ _ _

pub loop-x-preserved : goal.loop-x-preserved
loop-x-preserved c =
    let p = c.loop-x in
    let h = c.loop-x-test.true in
    (elim c.if-x-a.branch [ then-x-a w ↦ rw w.k-is (relabel_put _ _ _ _ p.x-index p.invariant h w.if-x-a.true) | else-x-a w ↦ rw (w.k-is, set-get_or p.k p.x-index 0) (relabel_leave _ _ _ _ p.x-index p.invariant h w.if-x-a.false) ])

pub returns : goal.returns
returns c =
    let p = c.loop-x in
    let h = p.invariant.size in
    relabel_stop _ _ _ _ p.x-index p.invariant (omega arith)
