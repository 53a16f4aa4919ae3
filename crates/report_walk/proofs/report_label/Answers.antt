use Prim.Native.Nat.{◌-◌}
use native.Mathlib.Omega.{arith}
use mathlib.Core.Path.{refl, sym, ◌∙◌}
use lib.Seq.{length-take-le}
use Rattle.report_walk.proofs.Reporting.{reporting_start, reporting_walks, reporting_short, reporting_place, reporting_more, reporting_end}
use Rattle.report_walk.proofs.report_label.Goals as goal

pub loop-i-init : goal.loop-i-init
loop-i-init c =
    let p = c.requires in
    (reporting_start _ _ _ _ _ p.walkable, (p.unpaired, refl))

pub next_token-token-requires : goal.next_token-token-requires
next_token-token-requires c =
    let p = c.requires in
    let i = c.loop-i.invariant in record { laid = p.laid; unpaired = i.1.0; least_work_in_bounds = (omega (arith, p.least_work_in_bounds.0, i.1.1), reporting_short _ _ _ _ _ _ _ _ i.0 _ p.least_work_in_bounds.1); walkable = reporting_walks _ _ _ _ _ _ _ _ i.0 (omega arith) }

pub overflow_add-from : goal.overflow_add-from
overflow_add-from c = record { fits = omega (arith, c.loop-i.invariant.0.inside, c.requires.least_work_in_bounds) }

pub overflow_add-from-in-loop-i : goal.overflow_add-from-in-loop-i
overflow_add-from-in-loop-i c =
    let place = reporting_place _ _ _ _ _ _ _ _ c.loop-i.invariant.0 (omega arith) _ _ _ c.next_token-token.ensures.walks in
    record { fits = omega (arith, place.1, c.requires.least_work_in_bounds) }

pub slice_bounds-put_line-end : goal.slice_bounds-put_line-end
slice_bounds-put_line-end c =
    omega (arith, c.next_token-token.ensures.walks.few, c.next_token-token.ensures.walks.same, c.loop-i.invariant.1.1, c.requires.least_work_in_bounds.0)

pub slice_bounds-put_line-end-in-loop-i : goal.slice_bounds-put_line-end-in-loop-i
slice_bounds-put_line-end-in-loop-i c = sym (length-take-le _ _ (slice_bounds-put_line-end c))

pub overflow_add-i : goal.overflow_add-i
overflow_add-i c =
    let place = reporting_place _ _ _ _ _ _ _ _ c.loop-i.invariant.0 (omega arith) _ _ _ c.next_token-token.ensures.walks in
    record { fits = omega (arith, place.1, c.requires.least_work_in_bounds) }

pub loop-i-smaller : goal.loop-i-smaller
loop-i-smaller c =
    let place = reporting_place _ _ _ _ _ _ _ _ c.loop-i.invariant.0 (omega arith) _ _ _ c.next_token-token.ensures.walks in
    omega (arith, place)

pub loop-i-preserved : goal.loop-i-preserved
loop-i-preserved c =
    let i = c.loop-i.invariant in
    let n = c.next_token-token.ensures in
    (reporting_more _ _ _ _ _ _ _ _ i.0 (omega arith) _ _ _ n.walks _ _ (rw c.is_some.ensures at c.put_line-r.ensures), (n.unpaired_2, n.walks.same ∙ i.1.1))

pub shape_of-unpaired : goal.shape_of-unpaired
shape_of-unpaired c = omega (arith, c.loop-i.invariant.1.0.size, c.requires.unpaired.size)

pub shape_of-out : goal.shape_of-out
shape_of-out c = c.loop-i.invariant.0.put.same

pub shape_of-w : goal.shape_of-w
shape_of-w c = c.loop-i.invariant.1.1

pub returns : goal.returns
returns c = record { adds = reporting_end _ _ _ _ _ _ _ _ c.loop-i.invariant.0 (omega arith); unpaired_2 = c.loop-i.invariant.1.0 }
