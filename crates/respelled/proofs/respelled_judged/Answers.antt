-- `respelled_judged`: 1 to 4, or what the label gives.
use Rattle.std.proofs.lemmas.Result.{err_from_is_err_and}
use Rattle.name.proofs.Answering.{admits}
use Rattle.respelled.proofs.ListLaws.{refused_by, not_admitted}
use Rattle.respelled.proofs.respelled_judged.Goals as goal

pub returns-in_err-ix : goal.returns-in_err-ix
returns-in_err-ix c =
    let p = err_from_is_err_and c.from_residual.result c.from_residual.ensures.1 in
    rw (p.1, p.2) (not_admitted _ _ _ _ _ (refused_by _ _ _ _ c.admit.ensures _ c.in_err-ix.was))

pub list_label-requires : goal.list_label-requires
list_label-requires c = admits _ _ _ _ c.admit.ensures _ c.in_ok-ix.was

pub shape_of-list : goal.shape_of-list
shape_of-list c = c.list_label.ensures.same

pub shape_of-work : goal.shape_of-work
shape_of-work c = c.list_label.ensures.same-work

pub returns : goal.returns
returns c = c.list_label.ensures
