use Prim.Native.Nat.{◌+◌}
use native.Mathlib.Omega.{arith}
use mathlib.Core.Path.{◌≡◌, refl, sym, ◌∙◌}
use lib.ListN.{length}
use Rattle.std.proofs.Common.{rules}
use Rattle.name.proofs.Splitting.{left_start, left_none, left_next}
use Rattle.report_walk.proofs.Reporting.{labelled_start, labelled_walks, labelled_more, labelled_end}
use Rattle.report_walk.proofs.report_labels.Goals as goal

pub index_pairs-requires : goal.index_pairs-requires
index_pairs-requires c = record { laid = c.requires.laid; unpaired_value = refl }

pub loop-label-init : goal.loop-label-init
loop-label-init c =
    let p = c.requires in (
      labelled_start _ _ _ p.least_work_in_bounds.2 p.every,
      (c.index_pairs.ensures, refl),
      rw c.into_iter-label-iterator.ensures.into_iter_gives (left_start _ _ c.split-label-items.ensures.rest c.split-label-items.ensures.done),
    )

pub report_label-sink-requires : goal.report_label-sink-requires
report_label-sink-requires c =
    let p = c.requires in
    let i = c.loop-label.invariant in
    let n = left_next _ _ _ _ c.in-Some.label c.next.new.self (λ f a r q k. search rules) i.2 c.in-Some.ensures.steps in record { laid = p.laid; unpaired = i.1.0; least_work_in_bounds = (omega (arith, p.least_work_in_bounds.0, i.1.1), omega (arith, n.ends.to, p.least_work_in_bounds.1), omega (arith, n.ends.to, p.least_work_in_bounds.1)); walkable = rw n.is at (labelled_walks _ _ _ _ _ _ i.0 _ n.ends) }

pub overflow_add-at-in-loop-label : goal.overflow_add-at-in-loop-label
overflow_add-at-in-loop-label c =
    let n = left_next _ _ _ _ c.in-Some.label c.next.new.self (λ f a r q k. search rules) c.loop-label.invariant.2 c.in-Some.ensures.steps in
    omega (arith, n.ends.to, c.requires.least_work_in_bounds.1)

pub loop-label-preserved : goal.loop-label-preserved
loop-label-preserved c =
    let i = c.loop-label.invariant in
    let r = c.report_label-sink in
    let n = left_next _ _ _ _ c.in-Some.label c.next.new.self (λ f a r q k. search rules) i.2 c.in-Some.ensures.steps in
    let e : c.loop-label.at + (length c.in-Some.label.now + 1) ≡ c.loop-label.at + length c.in-Some.label.now + 1 = omega arith in
    (rw e (labelled_more _ _ _ _ _ _ i.0 _ n.ends _ _ (rw n.is r.ensures.adds)), (r.ensures.unpaired_2, r.auto.w ∙ i.1.1), n.left)

pub shape_of-out : goal.shape_of-out
shape_of-out c = c.loop-label.invariant.0.put.same

pub shape_of-w : goal.shape_of-w
shape_of-w c = c.loop-label.invariant.1.1

pub returns : goal.returns
returns c = labelled_end _ _ _ _ _ _ c.loop-label.invariant.0 (omega (arith, left_none _ _ _ c.loop-label.invariant.2 c.in-None.ensures.steps.0))
