-- `find_judged`: a refusal before the form, or what is done under it.
use native.Mathlib.Omega.{arith}
use mathlib.Core.Path.{refl}
use Rattle.std.proofs.lemmas.Result.{err_from_is_err_and}
use Rattle.book_slots.specs.declared.Account.{Account}
use Rattle.book.proofs.CallLaws.{judged_refused, form_room_lem, form_long, whole_area, job_asks, judged-read}
use Rattle.book.proofs.calls.find_judged.Goals as goal

pub slice_bounds-find_in-count : goal.slice_bounds-find_in-count
slice_bounds-find_in-count c =
    let d = c in
    let g = d in
    omega (arith, whole_area _ _ _ _ _ _ _ g.form_for.ensures _ d.in_ok-n.was)

pub slice_bounds-find_in-start : goal.slice_bounds-find_in-start
slice_bounds-find_in-start c =
    let d = c in
    let g = d in
    omega (arith, whole_area _ _ _ _ _ _ _ g.form_for.ensures _ d.in_ok-n.was)

pub slice_bounds-find_in-end-2 : goal.slice_bounds-find_in-end-2
slice_bounds-find_in-end-2 c =
    let d = c in
    let g = d in
    omega (arith, form_room_lem _ _ _ _ _ _ _ g.form_for.ensures _ d.in_ok-n.was, form_long _ _ _ _ _ _ _ g.form_for.ensures _ d.in_ok-n.was)

pub slice_bounds-find_in-end-3 : goal.slice_bounds-find_in-end-3
slice_bounds-find_in-end-3 c =
    let d = c in
    let g = d in
    omega (arith, form_room_lem _ _ _ _ _ _ _ g.form_for.ensures _ d.in_ok-n.was, form_long _ _ _ _ _ _ _ g.form_for.ensures _ d.in_ok-n.was)

pub find_in-requires : goal.find_in-requires
find_in-requires c =
    let d = c in
    let g = d in
    let every = job_asks _ _ _ _ _ _ _ g.form_for.ensures _ d.in_ok-n.was in record { slots_len = every.0; form_len_bound = every.1 }

pub returns-in_err-n : goal.returns-in_err-n
returns-in_err-n c =
    let p = err_from_is_err_and c.from_residual.result c.from_residual.ensures.1 in
    rw (p.1, p.2) (judged_refused _ _ _ _ _ _ _ _ _ _ c.form_for.ensures (λ (a : Account). a.words) _ c.in_err-n.was)

pub returns : goal.returns
returns c =
    let d = c in
    let g = d in
    judged-read _ _ _ _ _ _ _ _ _ _ g.form_for.ensures _ d.in_ok-n.was _ _ c.find_in.ensures refl
