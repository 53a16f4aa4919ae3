-- `judge_name`: 1 to 4, then the labels.
use Rattle.std.proofs.lemmas.Result.{err_from_is_err_and}
use Rattle.memo.proofs.MemoLaws.{memo_new}
use Rattle.name.proofs.Answering.{admits, name_admitted, name_not_admitted}
use Rattle.name_call.proofs.judge_name.Goals as goal

pub judge_labels-requires : goal.judge_labels-requires
judge_labels-requires c =
    let a = admits _ _ _ _ c.admit.ensures _ c.in_ok-ix.was in
    record { laid = a.laid; least_work_in_bounds = (a.enough, a.short); memo = memo_new _ }

pub returns : goal.returns
returns c = name_admitted _ _ _ _ _ _ c.admit.ensures _ c.in_ok-ix.was _ _ _ c.judge_labels.ensures

pub returns-in_err-ix : goal.returns-in_err-ix
returns-in_err-ix c =
    let p = err_from_is_err_and c.from_residual.result c.from_residual.ensures.1 in
    rw (p.1, p.2) (name_not_admitted _ _ _ _ _ _ c.admit.ensures _ c.in_err-ix.was)
