-- `form_for`: 40 and 41, what the name call answered, then 42 and 43.
use Rattle.std.proofs.Common.{rules}
use Rattle.std.proofs.lemmas.Result.{err_from_is_err_and}
use Rattle.book_filing.proofs.FormLaws.{area_files, whole_area, name_files, length_files, form_files}
use Rattle.book_filing.proofs.form_for.Goals as goal

pub returns-in_err-open : goal.returns-in_err-open
returns-in_err-open c =
    let p = err_from_is_err_and c.from_residual.result c.from_residual.ensures.1 in
    rw (p.1, p.2) (area_files _ _ _ _ _ c.open.ensures _ c.in_err-open.was)

pub returns-in_err-form : goal.returns-in_err-form
returns-in_err-form c =
    let p = err_from_is_err_and c.from_residual-in_err-form.result c.from_residual-in_err-form.ensures.1 in
    rw (p.1, p.2)
    (name_files _ _ _ _ _ _ _ _ _ c.name.ensures (whole_area _ _ c.open.ensures _ c.in_ok-open.was) (search rules) (search rules) _ c.in_err-form.was)

pub returns-in_err-check_length : goal.returns-in_err-check_length
returns-in_err-check_length c =
    let p = err_from_is_err_and c.from_residual-in_err-check_length.result c.from_residual-in_err-check_length.ensures.1 in
    rw (p.1, p.2)
    (length_files _ _ _ _ _ _ _ _ _ c.name.ensures (whole_area _ _ c.open.ensures _ c.in_ok-open.was) (search rules) (search rules) _ _ c.in_ok-form.was
    _ c.check_length.ensures _ c.in_err-check_length.was)

pub returns : goal.returns
returns c =
    form_files _ _ _ _ _ _ _ _ _ c.name.ensures (whole_area _ _ c.open.ensures _ c.in_ok-open.was) (search rules) (search rules) _ _ c.in_ok-form.was
    _ c.check_length.ensures _ c.in_ok-check_length.was
