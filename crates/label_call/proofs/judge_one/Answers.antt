-- `judge_one`: a stop in the label, or the label as a whole.
use native.Mathlib.Omega.{arith}
use mathlib.Core.Path.{refl, sym, ◌∙◌}
use lib.ListN.{length-take}
use lib.Seq.{length-take-le}
use Rattle.std.proofs.lemmas.Result.{err_from_is_err_and}
use Rattle.one_label.proofs.Said.{judged-room, judged_count, judged_short}
use Rattle.label_call.proofs.OneLabel.{one_disallowed, one-barred, one_refused, one_accepted}
use Rattle.label_call.proofs.judge_one.Goals as goal

pub slice_bounds-before_stop-end : goal.slice_bounds-before_stop-end
slice_bounds-before_stop-end c = sym (length-take-le _ _ c.label_end-end.ensures.to)

pub before_stop-at-requires : goal.before_stop-at-requires
before_stop-at-requires c =
    let p = c.requires in
    record { laid = p.laid; least_work_in_bounds = (p.least_work_in_bounds.0, simp length-take (omega arith)) }

pub returns-then-end-input : goal.returns-then-end-input
returns-then-end-input c = one_disallowed _ _ _ _ _ _ c.label_end-end.ensures c.if-end-input.true _ _ c.before_stop-at.ensures

pub index_pairs-requires : goal.index_pairs-requires
index_pairs-requires c = record { laid = c.requires.laid; unpaired_value = refl }

pub slice_bounds-ask-end : goal.slice_bounds-ask-end
slice_bounds-ask-end c = sym c.index_pairs.ensures.size

pub ask-requires : goal.ask-requires
ask-requires c = record { laid = c.requires.laid; unpaired = c.index_pairs.ensures }

pub slice_bounds-judge_label-end : goal.slice_bounds-judge_label-end
slice_bounds-judge_label-end c = sym c.ask.ensures.unpaired_2.size

pub judge_label-requires : goal.judge_label-requires
judge_label-requires c =
    let p = c.requires in
    record { laid = p.laid; unpaired = c.ask.ensures.unpaired_2; least_work_in_bounds = (p.least_work_in_bounds.0, p.least_work_in_bounds.1, omega arith, omega arith); memo = p.memo }

pub returns-then-is_barred : goal.returns-then-is_barred
returns-then-is_barred c =
    one-barred _ _ _ _ _ _ c.label_end-end.ensures c.if-end-input.false _ _ c.judge_label.ensures.judges _ c.in_ok-judged.was
    (sym c.is_barred.ensures ∙ c.if-is_barred.true)

pub slice_bounds-put_label-end : goal.slice_bounds-put_label-end
slice_bounds-put_label-end c = judged-room _ _ _ _ _ _ _ _ c.judge_label.ensures.judges _ c.in_ok-judged.was c.requires.least_work_in_bounds.0

pub slice_bounds-put_label-end-2 : goal.slice_bounds-put_label-end-2
slice_bounds-put_label-end-2 c = judged_count _ _ _ _ _ _ _ _ c.judge_label.ensures.judges _ c.in_ok-judged.was

pub put_label-length-requires : goal.put_label-length-requires
put_label-length-requires c = (omega arith, judged_short _ _ _ _ _ _ _ _ c.judge_label.ensures.judges _ c.in_ok-judged.was)

pub returns : goal.returns
returns c =
    one_accepted _ _ _ _ _ _ c.label_end-end.ensures c.if-end-input.false _ _ c.judge_label.ensures.judges _ c.in_ok-judged.was
    (sym c.is_barred.ensures ∙ c.if-is_barred.false) _ _ c.put_label-length.ensures

pub returns-in_err-judged : goal.returns-in_err-judged
returns-in_err-judged c =
    let p = err_from_is_err_and c.from_residual.result c.from_residual.ensures.1 in
    rw (p.1, p.2) (one_refused _ _ _ _ _ _ c.label_end-end.ensures c.if-end-input.false _ _ c.judge_label.ensures.judges _ c.in_err-judged.was)
