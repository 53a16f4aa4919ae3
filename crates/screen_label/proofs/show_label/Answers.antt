use Prim.Native.Nat.{◌-◌}
use native.Mathlib.Omega.{arith}
use mathlib.Core.Path.{refl, ◌∙◌}
use Rattle.screen_label.proofs.ShowingLaws.{showing_start, showing_walks, showing_short, showing_place, showing_more, showing_end}
use Rattle.screen_label.proofs.show_label.Goals as goal

pub loop-i-init : goal.loop-i-init
loop-i-init c =
    let p = c.requires in
    (showing_start _ _ _ _ _ p.walkable, (p.unpaired, refl))

pub next_token-token-requires : goal.next_token-token-requires
next_token-token-requires c =
    let p = c.requires in
    let i = c.loop-i.invariant in record { laid = p.laid; unpaired = i.1.0; least_work_in_bounds = (omega (arith, p.least_work_in_bounds.0, i.1.1), showing_short _ _ _ _ _ _ _ _ i.0 _ p.least_work_in_bounds.1); walkable = showing_walks _ _ _ _ _ _ _ _ i.0 (omega arith) }

pub put_token-end-requires : goal.put_token-end-requires
put_token-end-requires c =
    let p = c.requires in
    let i = c.loop-i.invariant in
    let n = c.next_token-token.ensures.walks in
    record { laid = p.laid; least_work_in_bounds = (omega (arith, p.least_work_in_bounds.0, i.1.1, n.same), n.few, omega (arith, i.0.near, i.0.inside, p.least_work_in_bounds.2)) }

pub overflow_add-i : goal.overflow_add-i
overflow_add-i c =
    let place = showing_place _ _ _ _ _ _ _ _ c.loop-i.invariant.0 (omega arith) _ _ _ c.next_token-token.ensures.walks in
    record { fits = omega (arith, place.1, c.requires.least_work_in_bounds) }

pub loop-i-smaller : goal.loop-i-smaller
loop-i-smaller c =
    let place = showing_place _ _ _ _ _ _ _ _ c.loop-i.invariant.0 (omega arith) _ _ _ c.next_token-token.ensures.walks in
    omega (arith, place)

pub loop-i-preserved : goal.loop-i-preserved
loop-i-preserved c =
    let i = c.loop-i.invariant in
    let n = c.next_token-token.ensures in
    (showing_more _ _ _ _ _ _ _ _ i.0 (omega arith) _ _ _ n.walks _ _ c.put_token-end.ensures, (n.unpaired_2, c.put_token-end.auto.w ∙ n.walks.same ∙ i.1.1))

pub shape_of-unpaired : goal.shape_of-unpaired
shape_of-unpaired c = omega (arith, c.loop-i.invariant.1.0.size, c.requires.unpaired.size)

pub shape_of-answer : goal.shape_of-answer
shape_of-answer c = c.loop-i.invariant.0.put.same

pub shape_of-w : goal.shape_of-w
shape_of-w c = c.loop-i.invariant.1.1

pub returns : goal.returns
returns c =
    record { shows_label = showing_end _ _ _ _ _ _ _ _ c.loop-i.invariant.0 (omega arith); unpaired_2 = c.loop-i.invariant.1.0 }
