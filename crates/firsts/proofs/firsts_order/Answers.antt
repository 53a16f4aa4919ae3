use Prim.Native.Nat.{◌+◌, ◌-◌, ◌/◌}
use native.Mathlib.Omega.{arith}
use mathlib.Core.Path.{◌∙◌}
use mathlib.Core.Logic.{inl, inr}
use mathlib.Core.Bool.{◌&&◌, ◌||◌}
use lib.ListN.{get_or}
use lib.Dec.{leb, ltb}
use borrow.Author.Tests.{leb-true}
use Rattle.table.proofs.Lookups.{both}
use Rattle.place_marks.specs.Places.{most_place}
use Rattle.place_marks.proofs.Setting.{count_good, count_broken}
use Rattle.firsts.proofs.Walks.{pass_start, pass_marked, pass_fault, pass_more, pass_stop}
use Rattle.firsts.proofs.firsts_order.Goals as goal
use Rattle.firsts.proofs.firsts_order.Goals.{else-floor-first, then-floor-first}

pub loop-here-init : goal.loop-here-init
loop-here-init c = rw (c.no_marks-places.ensures, c.no_marks-numbers.ensures) (pass_start _ _ c.first_record-here.ensures)

pub returns-then-not-count_fits : goal.returns-then-not-count_fits
returns-then-not-count_fits c =
    let k = c in
    let l = k in
    pass_fault _ l.loop-here.here l.loop-here.last l.loop-here.floor l.loop-here.steady _ _ l.loop-here.invariant (omega arith) (λ low high fits. count_broken _ _ _ _ k.count_fits.ensures c.if-not-count_fits.true-raw low high (omega arith)) _ c.faulty.ensures

pub loop-here-preserved : goal.loop-here-preserved
loop-here-preserved c =
    let j = c in
    let n = j in
    let l = n in
    let ws = l.args.part.now in
    let k = count_good _ _ _ _ n.count_fits.ensures j.if-not-count_fits.false-raw in
    let q = pass_marked _ l.loop-here.here l.loop-here.last l.loop-here.floor l.loop-here.steady l.loop-here.places l.loop-here.numbers l.loop-here.invariant j.if-floor-first.places j.if-floor-first.numbers ((elim j.if-floor-first.branch [ then-floor-first w ↦ inl (leb-true _ _ (both (ltb l.loop-here.floor (get_or ws (l.loop-here.here.place + 1) 0) && (leb l.loop-here.next l.loop-here.here.place || ltb l.loop-here.floor (get_or ws (l.loop-here.here.place + 1) 0 / 2))) (leb l.loop-here.here.place most_place) w.if-floor-first.true).1, w.places-is ∙ w.with_mark-places.ensures, w.numbers-is ∙ w.with_mark-numbers.ensures) | else-floor-first w ↦ inr (w.places-is, w.numbers-is) ])) in
    pass_more _ l.loop-here.here l.loop-here.last l.loop-here.floor l.loop-here.steady j.if-floor-first.places j.if-floor-first.numbers q (omega arith) k.0 k.1 (omega (arith, k.2)) _ c.follows-steady.ensures

pub returns : goal.returns
returns c =
    let l = c in
    pass_stop _ l.loop-here.here l.loop-here.last l.loop-here.floor l.loop-here.steady l.loop-here.places l.loop-here.numbers l.loop-here.invariant c.loop-here-test.false _ c.order_of.ensures.0 c.order_of.ensures.1
