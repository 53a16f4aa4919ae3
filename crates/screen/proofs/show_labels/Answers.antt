use Prim.Native.Nat.{◌+◌}
use native.Mathlib.Omega.{arith}
use mathlib.Core.Path.{◌≡◌, refl, sym, ◌∙◌}
use lib.ListN.{length}
use Rattle.std.proofs.Common.{rules}
use Rattle.std.proofs.lemmas.Result.{err_from_is_err_and}
use Rattle.name.proofs.Splitting.{left_start, left_none, left_next}
use Rattle.one_label.proofs.Said.{judged-worked}
use Rattle.screen.proofs.Passing.{pass_start, pass_empty, pass_done, pass_refused, pass_barred, pass_walks, pass_room, pass_more}
use Rattle.screen.proofs.show_labels.Goals as goal

pub returns-then-name-eq0 : goal.returns-then-name-eq0
returns-then-name-eq0 c = pass_done _ _ _ _ _ _ _ _ _ _ _ _ (pass_empty _ _ _ _ _ _ c.if-name-eq0.true) (omega (arith, c.if-name-eq0.true))

pub index_pairs-requires : goal.index_pairs-requires
index_pairs-requires c = record { laid = c.requires.laid; unpaired_value = refl }

pub loop-label-init : goal.loop-label-init
loop-label-init c = (
  pass_start _ _ _ _ _ _ (omega arith),
  (c.index_pairs.ensures, c.requires.memo),
  rw c.into_iter-label-iterator.ensures.into_iter_gives (left_start _ _ c.split-label-items.ensures.rest c.split-label-items.ensures.done),
)

pub slice_bounds-judge_label-end : goal.slice_bounds-judge_label-end
slice_bounds-judge_label-end c = sym c.loop-label.invariant.1.0.size

pub judge_label-requires : goal.judge_label-requires
judge_label-requires c =
    let p = c.requires in
    let i = c.loop-label.invariant in
    let n = left_next _ _ _ _ c.in-Some.label c.next.new.self (λ f a r q k. search rules) c.loop-label.invariant.2 c.in-Some.ensures.steps in
    record { laid = p.laid; unpaired = i.1.0; least_work_in_bounds = (omega (arith, p.least_work_in_bounds.0, i.0.same-work), omega (arith, n.ends.to, p.least_work_in_bounds.1), omega (arith, p.least_work_in_bounds.1, n.ends.to), i.0.spent); memo = i.1.1 }

pub shape_of-answer-then-is_barred : goal.shape_of-answer-then-is_barred
shape_of-answer-then-is_barred c = c.loop-label.invariant.0.same

pub shape_of-w-then-is_barred : goal.shape_of-w-then-is_barred
shape_of-w-then-is_barred c = c.judge_label.ensures.judges.same ∙ c.loop-label.invariant.0.same-work

pub shape_of-memo-then-is_barred : goal.shape_of-memo-then-is_barred
shape_of-memo-then-is_barred c = c.judge_label.ensures.memo_2.size ∙ sym c.requires.memo.size

pub returns-then-is_barred : goal.returns-then-is_barred
returns-then-is_barred c =
    let n = left_next _ _ _ _ c.in-Some.label c.next.new.self (λ f a r q k. search rules) c.loop-label.invariant.2 c.in-Some.ensures.steps in
    pass_barred _ _ _ _ _ _ _ _ _ _ _ _ c.loop-label.invariant.0 _ n.ends _ _ (rw n.is c.judge_label.ensures.judges) _ _ _ c.in_ok-judged.was (sym c.is_barred.ensures ∙ c.if-is_barred.true)

pub slice_bounds-put_label-end : goal.slice_bounds-put_label-end
slice_bounds-put_label-end c = omega arith

pub put_label-from-requires : goal.put_label-from-requires
put_label-from-requires c =
    let i = c.loop-label.invariant.0 in
    (omega (arith, i.small, i.inside, c.requires.least_work_in_bounds.1), omega arith)

pub slice_bounds-show_label-end : goal.slice_bounds-show_label-end
slice_bounds-show_label-end c = sym c.judge_label.ensures.unpaired_2.size

pub show_label-len-requires : goal.show_label-len-requires
show_label-len-requires c =
    let p = c.requires in
    let i = c.loop-label.invariant.0 in
    let n = left_next _ _ _ _ c.in-Some.label c.next.new.self (λ f a r q k. search rules) c.loop-label.invariant.2 c.in-Some.ensures.steps in
    let j = c.judge_label.ensures in record {
      laid = p.laid;
      unpaired = j.unpaired_2;
      least_work_in_bounds = (
        omega (arith, p.least_work_in_bounds.0, i.same-work, j.judges.same),
        omega (arith, n.ends.to, p.least_work_in_bounds.1),
        rw n.is at (pass_room _ _ _ _ _ _ _ _ _ _ _ _ c.loop-label.invariant.0 _ n.ends _ _ (rw (← n.is) at c.judge_label.ensures.judges) _ _ _ c.in_ok-judged.was _ _ c.put_label-from.ensures p.least_work_in_bounds.1),
      );
      walkable = rw n.is at (pass_walks _ _ _ _ _ _ _ _ _ _ _ _ c.loop-label.invariant.0 _ n.ends _ _ (rw (← n.is) at c.judge_label.ensures.judges) _ _ _ c.in_ok-judged.was);
    }

pub overflow_add-done : goal.overflow_add-done
overflow_add-done c = omega (arith, judged-worked _ _ _ _ _ _ _ _ c.judge_label.ensures.judges _ c.in_ok-judged.was)

pub overflow_add-done-in-loop-label : goal.overflow_add-done-in-loop-label
overflow_add-done-in-loop-label c = omega (arith, judged-worked _ _ _ _ _ _ _ _ c.judge_label.ensures.judges _ c.in_ok-judged.was)

pub overflow_add-place : goal.overflow_add-place
overflow_add-place c =
    let i = c.loop-label.invariant.0 in
    omega (arith, i.few, i.inside, c.requires.least_work_in_bounds.1)

pub overflow_add-at-in-loop-label : goal.overflow_add-at-in-loop-label
overflow_add-at-in-loop-label c =
    let n = left_next _ _ _ _ c.in-Some.label c.next.new.self (λ f a r q k. search rules) c.loop-label.invariant.2 c.in-Some.ensures.steps in
    omega (arith, n.ends.to, c.requires.least_work_in_bounds.1)

pub loop-label-preserved : goal.loop-label-preserved
loop-label-preserved c =
    let n = left_next _ _ _ _ c.in-Some.label c.next.new.self (λ f a r q k. search rules) c.loop-label.invariant.2 c.in-Some.ensures.steps in
    let e : c.loop-label.at + (length c.in-Some.label.now + 1) ≡ c.loop-label.at + length c.in-Some.label.now + 1 = omega arith in (
      rw e (pass_more _ _ _ _ _ _ _ _ _ _ _ _ c.loop-label.invariant.0 _ n.ends _ _ (rw n.is c.judge_label.ensures.judges) _ _ _ c.in_ok-judged.was _ _ c.put_label-from.ensures
          (sym c.is_barred.ensures ∙ c.if-is_barred.false) _ _ _ (rw n.is (rw c.is_greek-own.ensures at c.show_label-len.ensures.shows_label)) c.show_label-len.auto.w),
      (c.show_label-len.ensures.unpaired_2, c.judge_label.ensures.memo_2),
      n.left,
    )

pub shape_of-answer-in_err-judged : goal.shape_of-answer-in_err-judged
shape_of-answer-in_err-judged c = c.loop-label.invariant.0.same

pub shape_of-w-in_err-judged : goal.shape_of-w-in_err-judged
shape_of-w-in_err-judged c = c.judge_label.ensures.judges.same ∙ c.loop-label.invariant.0.same-work

pub shape_of-memo-in_err-judged : goal.shape_of-memo-in_err-judged
shape_of-memo-in_err-judged c = c.judge_label.ensures.memo_2.size ∙ sym c.requires.memo.size

pub returns-in_err-judged : goal.returns-in_err-judged
returns-in_err-judged c =
    let p = err_from_is_err_and c.from_residual.result c.from_residual.ensures.1 in
    let n = left_next _ _ _ _ c.in-Some.label c.next.new.self (λ f a r q k. search rules) c.loop-label.invariant.2 c.in-Some.ensures.steps in
    rw (p.1, p.2) (pass_refused _ _ _ _ _ _ _ _ _ _ _ _ c.loop-label.invariant.0 _ n.ends _ _ (rw n.is c.judge_label.ensures.judges) _ c.in_err-judged.was)

pub shape_of-answer : goal.shape_of-answer
shape_of-answer c = c.loop-label.invariant.0.same

pub shape_of-w : goal.shape_of-w
shape_of-w c = c.loop-label.invariant.0.same-work

pub shape_of-memo : goal.shape_of-memo
shape_of-memo c = c.loop-label.invariant.1.1.size ∙ sym c.requires.memo.size

pub returns : goal.returns
returns c = pass_done _ _ _ _ _ _ _ _ _ _ _ _ c.loop-label.invariant.0 (omega (arith, left_none _ _ _ c.loop-label.invariant.2 c.in-None.ensures.steps.0))
