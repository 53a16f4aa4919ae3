use Prim.Native.Nat.{◌+◌, ◌-◌, ◌≤◌, ◌<◌}
use native.Mathlib.Omega.{arith}
use mathlib.Core.Path.{refl, ◌∙◌}
use mathlib.Core.Logic.{inl, inr}
use lib.ListN.{length, get_or}
use Rattle.place_marks.proofs.Setting.{count_good, count_broken}
use Rattle.heads.proofs.Passing.{pass_start, pass_marked, pass_fault, pass_stop}
use Rattle.heads.proofs.heads_order.Goals as goal
use Rattle.heads.proofs.heads_order.Goals.{else-next-at, then-next-at}

pub loop-walk-init : goal.loop-walk-init
loop-walk-init c = rw c.no_marks-marks.ensures (pass_start _ _ c.requires)

pub returns-then-rest-lt2 : goal.returns-then-rest-lt2
returns-then-rest-lt2 c =
    let l = c in
    pass_fault _ _ l.loop-walk.walk.at l.loop-walk.walk.floor l.loop-walk.walk.rising l.loop-walk.marks l.loop-walk.invariant (omega arith) (λ low high fits. omega arith) _ c.faulty.ensures

pub overflow_cast-n : goal.overflow_cast-n
overflow_cast-n c =
    let l = c in
    omega (arith, c.type_inv.part (l.loop-walk.walk.at + 1))

pub returns-then-not-count_fits : goal.returns-then-not-count_fits
returns-then-not-count_fits c =
    let l = c in
    pass_fault _ _ l.loop-walk.walk.at l.loop-walk.walk.floor l.loop-walk.walk.rising l.loop-walk.marks l.loop-walk.invariant (omega arith) (λ low high fits. count_broken _ _ _ _ c.count_fits.ensures c.if-not-count_fits.true-raw low high (omega arith)) _ c.faulty-then-not-count_fits.ensures

pub overflow_sub-part-in-loop-walk : goal.overflow_sub-part-in-loop-walk
overflow_sub-part-in-loop-walk c =
    let l = c in
    let ws = l.args.part.now in
    let fits : get_or ws (l.loop-walk.walk.at + 1) 0 ≤ length ws - l.loop-walk.walk.at - 2 = (count_good _ _ _ _ c.count_fits.ensures c.if-not-count_fits.false-raw).2 in
    omega arith

pub pass_run-walk-requires : goal.pass_run-walk-requires
pass_run-walk-requires c =
    let l = c in
    let ws = l.args.part.now in
    let n = count_good _ _ _ _ c.count_fits.ensures c.if-not-count_fits.false-raw in
    let fits : get_or ws (l.loop-walk.walk.at + 1) 0 ≤ length ws - l.loop-walk.walk.at - 2 = n.2 in
    let stop : c.lower-stop.result ≤ length ws - 1 - get_or ws (l.loop-walk.walk.at + 1) 0 = c.lower-stop.ensures.second in
    (n.0, omega arith)

pub loop-walk-preserved : goal.loop-walk-preserved
loop-walk-preserved c =
    let j = c in
    let l = j in
    let n = count_good _ _ _ _ c.count_fits.ensures c.if-not-count_fits.false-raw in
    let q = pass_marked _ _ l.loop-walk.walk.at l.loop-walk.walk.floor l.loop-walk.walk.rising l.loop-walk.marks l.loop-walk.invariant j.if-next-at.marks ((elim j.if-next-at.branch [ then-next-at w ↦ inl (w.marks-is ∙ w.with_mark-marks.ensures) | else-next-at w ↦ inr w.marks-is ])) in
    c.pass_run-walk.ensures.on _ j.if-next-at.marks n.1 q

pub loop-walk-smaller : goal.loop-walk-smaller
loop-walk-smaller c =
    let j = c in
    let l = j in
    let ws = l.args.part.now in
    let fits : get_or ws (l.loop-walk.walk.at + 1) 0 ≤ length ws - l.loop-walk.walk.at - 2 = (count_good _ _ _ _ c.count_fits.ensures c.if-not-count_fits.false-raw).2 in
    let ahead : l.loop-walk.walk.at < j.if-next-at.next = (elim j.if-next-at.branch [ then-next-at w ↦ omega (arith, w.next-is) | else-next-at w ↦ omega (arith, w.if-next-at.false, w.next-is) ]) in
    let on = c.pass_run-walk.ensures.further (c.lower-stop.ensures.above l.loop-walk.walk.at ahead (omega arith)) refl in
    omega (arith, on, (loop-walk-preserved c).inside)

pub returns : goal.returns
returns c =
    let l = c in
    pass_stop _ _ l.loop-walk.walk.at l.loop-walk.walk.floor l.loop-walk.walk.rising l.loop-walk.marks l.loop-walk.invariant c.loop-walk-test.false _ c.order_of.ensures.0 c.order_of.ensures.1
