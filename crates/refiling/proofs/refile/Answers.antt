-- `refile`: 4, a refusal of a label, or what the form comes to.
use mathlib.Core.Path.{refl}
use Rattle.std.proofs.lemmas.Result.{err_from_is_err_and}
use Rattle.refiling.proofs.FilingLaws.{changed_scalar, labels_refused, labels_formed}
use Rattle.refiling.proofs.refile.Goals as goal

pub returns-in-Some : goal.returns-in-Some
returns-in-Some c =
    let p = c.requires in
    let r = changed_scalar _ _ _ _ p.lent.laid p.lent.enough p.in_bounds.0 p.in_bounds.1 _ (rw c.in-Some.is at c.first_not_scalar.ensures) in
    record { verdict = r.0; result_value = r.1; lasting = record { same = refl; pairs = p.lent.pairs; remembered = p.lent.remembered } }

pub returns-in_err-form : goal.returns-in_err-form
returns-in_err-form c =
    let p = c.requires in
    let q = err_from_is_err_and c.from_residual.result c.from_residual.ensures.1 in
    let none = rw c.in_default.is at c.first_not_scalar.ensures in
    let r = labels_refused _ _ _ _ p.lent.laid p.lent.enough p.in_bounds.0 p.in_bounds.1 none _ c.file_labels.ensures.value _ c.in_err-form.was in
    record { verdict = rw (q.1, q.2) r.0; result_value = rw (q.1, q.2) r.1; lasting = c.file_labels.ensures.lasting }

pub returns : goal.returns
returns c =
    let p = c.requires in
    let none = rw c.in_default.is at c.first_not_scalar.ensures in
    let r = labels_formed _ _ _ _ p.lent.laid p.lent.enough p.in_bounds.0 p.in_bounds.1 none _ c.file_labels.ensures.value _ c.in_ok-form.was c.change_by.result c.change_by.ensures.verdict in
    record { verdict = r.0; result_value = r.1; lasting = c.file_labels.ensures.lasting }
