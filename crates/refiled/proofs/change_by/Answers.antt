-- `change_by`: 42 and 43, or whether it is the name.
use Rattle.std.proofs.lemmas.Result.{err_from_is_err_and}
use Rattle.refiled.proofs.ChangeLaws.{refused_change, form_change}
use Rattle.refiled.proofs.change_by.Goals as goal

pub returns-in_err-check_length : goal.returns-in_err-check_length
returns-in_err-check_length c =
    let p = err_from_is_err_and c.from_residual.result c.from_residual.ensures.1 in
    let v = refused_change _ _ _ c.check_length.ensures _ c.in_err-check_length.was in
    rw (p.1, p.2) (record { verdict = v.0; change = v.1 })

pub returns : goal.returns
returns c =
    let v = form_change _ _ _ c.check_length.ensures _ c.in_ok-check_length.was in
    record { verdict = v.0; change = v.1 }
