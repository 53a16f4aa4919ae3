use Prim.Native.Nat.{◌+◌}
use native.Mathlib.Omega.{arith}
use mathlib.Core.Path.{◌≡◌, refl, sym, ◌∙◌}
use lib.ListN.{length}
use Rattle.std.proofs.Common.{rules}
use Rattle.std.proofs.lemmas.Result.{err_from_is_err_and}
use Rattle.name.proofs.Splitting.{left_start, left_none, left_next}
use Rattle.one_label.proofs.Said.{judged-room, judged_count, judged_short, judged-worked}
use Rattle.refiling.proofs.FilingLaws.{go_start, go_end, go_refused, go_more}
use Rattle.refiling.proofs.file_labels.Goals as goal

pub loop-label-init : goal.loop-label-init
loop-label-init c =
    let p = c.requires in (
      go_start _ _ p.in_bounds.0,
      record { same = refl; pairs = p.lent.pairs; remembered = p.lent.remembered },
      rw c.into_iter-label-iterator.ensures.into_iter_gives (left_start _ _ c.split-label-items.ensures.rest c.split-label-items.ensures.done),
    )

pub judge_label-requires : goal.judge_label-requires
judge_label-requires c =
    let p = c.requires in
    let i = c.loop-label.invariant in
    let n = left_next _ _ _ _ c.in-Some.label c.next.new.self (λ f a r q k. search rules) c.loop-label.invariant.2 c.in-Some.ensures.steps in
    record { laid = p.lent.laid; unpaired = i.1.pairs; least_work_in_bounds = (omega (arith, p.lent.enough, i.1.same), omega (arith, n.ends.to, p.in_bounds.1), omega (arith, p.in_bounds.1, n.ends.to), i.0.spent); memo = i.1.remembered }

pub slice_bounds-same-end : goal.slice_bounds-same-end
slice_bounds-same-end c =
    judged-room _ _ _ _ _ _ _ _ c.judge_label.ensures.judges _ c.in_ok-judged.was
    (omega (arith, c.loop-label.invariant.1.same, c.requires.lent.enough))

pub slice_bounds-same-end-in-loop-label : goal.slice_bounds-same-end-in-loop-label
slice_bounds-same-end-in-loop-label c = judged_count _ _ _ _ _ _ _ _ c.judge_label.ensures.judges _ c.in_ok-judged.was

pub overflow_add-len : goal.overflow_add-len
overflow_add-len c =
    let j = c.judge_label.ensures.judges in
    let g = c.in_ok-judged.was in
    omega (arith, judged_count _ _ _ _ _ _ _ _ j _ g, judged_short _ _ _ _ _ _ _ _ j _ g)

pub overflow_add-len-in-loop-label : goal.overflow_add-len-in-loop-label
overflow_add-len-in-loop-label c =
    let j = c.judge_label.ensures.judges in
    let g = c.in_ok-judged.was in
    let i = c.loop-label.invariant.0 in
    omega (arith, judged_count _ _ _ _ _ _ _ _ j _ g, judged_short _ _ _ _ _ _ _ _ j _ g, i.small, i.few, i.inside, c.requires.in_bounds.1)

pub overflow_add-done : goal.overflow_add-done
overflow_add-done c = omega (arith, judged-worked _ _ _ _ _ _ _ _ c.judge_label.ensures.judges _ c.in_ok-judged.was)

pub overflow_add-done-in-loop-label : goal.overflow_add-done-in-loop-label
overflow_add-done-in-loop-label c = omega (arith, judged-worked _ _ _ _ _ _ _ _ c.judge_label.ensures.judges _ c.in_ok-judged.was)

pub overflow_add-place : goal.overflow_add-place
overflow_add-place c =
    let i = c.loop-label.invariant.0 in
    omega (arith, i.few, i.inside, c.requires.in_bounds.1)

pub overflow_add-at-in-loop-label : goal.overflow_add-at-in-loop-label
overflow_add-at-in-loop-label c =
    let n = left_next _ _ _ _ c.in-Some.label c.next.new.self (λ f a r q k. search rules) c.loop-label.invariant.2 c.in-Some.ensures.steps in
    omega (arith, n.ends.to, c.requires.in_bounds.1)

pub loop-label-preserved : goal.loop-label-preserved
loop-label-preserved c =
    let j = c.judge_label.ensures in
    let i = c.loop-label.invariant in
    let n = left_next _ _ _ _ c.in-Some.label c.next.new.self (λ f a r q k. search rules) c.loop-label.invariant.2 c.in-Some.ensures.steps in
    let e : c.loop-label.at + (length c.in-Some.label.now + 1) ≡ c.loop-label.at + length c.in-Some.label.now + 1 = omega arith in (
      rw (e, c.same-alike.ensures) (go_more _ _ _ _ _ _ _ i.0 _ n.ends _ n.is _ _ _ j.judges _ _ _ c.in_ok-judged.was),
      record { same = j.judges.same ∙ i.1.same; pairs = j.unpaired_2; remembered = j.memo_2 },
      n.left,
    )

pub shape_of-unpaired-in_err-judged : goal.shape_of-unpaired-in_err-judged
shape_of-unpaired-in_err-judged c = c.judge_label.ensures.unpaired_2.size ∙ sym c.requires.lent.pairs.size

pub shape_of-w-in_err-judged : goal.shape_of-w-in_err-judged
shape_of-w-in_err-judged c = c.judge_label.ensures.judges.same ∙ c.loop-label.invariant.1.same

pub shape_of-memo-in_err-judged : goal.shape_of-memo-in_err-judged
shape_of-memo-in_err-judged c = c.judge_label.ensures.memo_2.size ∙ sym c.requires.lent.remembered.size

pub returns-in_err-judged : goal.returns-in_err-judged
returns-in_err-judged c =
    let j = c.judge_label.ensures in
    let i = c.loop-label.invariant in
    let p = err_from_is_err_and c.from_residual.result c.from_residual.ensures.1 in
    let n = left_next _ _ _ _ c.in-Some.label c.next.new.self (λ f a r q k. search rules) c.loop-label.invariant.2 c.in-Some.ensures.steps in
    record { value = rw (p.1, p.2) (go_refused _ _ _ _ _ _ _ i.0 _ n.ends _ n.is _ _ _ j.judges _ c.in_err-judged.was); lasting = record { same = j.judges.same ∙ i.1.same; pairs = j.unpaired_2; remembered = j.memo_2 } }

pub overflow_sub-result : goal.overflow_sub-result
overflow_sub-result c = omega (arith, c.loop-label.invariant.0.some_done (omega (arith, left_none _ _ _ c.loop-label.invariant.2 c.in-None.ensures.steps.0)))

pub shape_of-unpaired : goal.shape_of-unpaired
shape_of-unpaired c = c.loop-label.invariant.1.pairs.size ∙ sym c.requires.lent.pairs.size

pub shape_of-w : goal.shape_of-w
shape_of-w c = c.loop-label.invariant.1.same

pub shape_of-memo : goal.shape_of-memo
shape_of-memo c = c.loop-label.invariant.1.remembered.size ∙ sym c.requires.lent.remembered.size

pub returns : goal.returns
returns c = record { value = go_end _ _ _ _ _ _ _ c.loop-label.invariant.0 (omega (arith, left_none _ _ _ c.loop-label.invariant.2 c.in-None.ensures.steps.0)); lasting = c.loop-label.invariant.1 }
