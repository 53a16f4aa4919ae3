-- `save_in`: the slot is written, or there is none.
use Rattle.std.proofs.Common.{rules, ◌∙◌}
use native.Mathlib.Omega.{arith}
use mathlib.Core.Path.{◌≡◌}
use Rattle.std.specs.Prelude.{Some, None, Err}
use Rattle.lists.specs.Lists.{place_with}
use Rattle.book_slots.specs.Book.{spot_for}
use Rattle.book_answers.specs.declared.BookError.TheVariants.{Full}
use Rattle.book_jobs.proofs.JobLaws.{whole_count, told_some, told_none, spot_inside, saved, not_saved}
use Rattle.book_jobs.proofs.save_in.Goals as goal

pub returns-in_err-i : goal.returns-in_err-i
returns-in_err-i c =
    let r : c.from_residual.result ≡ Err c.in_err-i.field-0.0 = search rules in
    let e : c.in_err-i.field-0.0 ≡ Full = grind arith in
    let n : c.spot_for.result ≡ None = grind arith in
    let q = told_none _ c.requires.slots_len _ c.slots_of.ensures (spot_for c.args.form.now) _ c.spot_for.ensures n in
    rw (r, e) (not_saved _ _ _ q)

pub fill_at-requires-clause-i_lt_count : goal.fill_at-requires-clause-i_lt_count
fill_at-requires-clause-i_lt_count c =
    let s : c.spot_for.result ≡ Some c.in_ok-i.i = grind arith in
    let q = told_some _ c.requires.slots_len _ c.slots_of.ensures (spot_for c.args.form.now) _ c.spot_for.ensures _ s in
    omega (arith, spot_inside _ _ _ q, whole_count _ c.requires.slots_len)

pub returns : goal.returns
returns c =
    let s : c.spot_for.result ≡ Some c.in_ok-i.i = grind arith in
    let q = told_some _ c.requires.slots_len _ c.slots_of.ensures (spot_for c.args.form.now) _ c.spot_for.ensures _ s in
    saved _ _ _ _ _ q (rw (whole_count _ c.requires.slots_len) at c.fill_at.ensures)
