-- `forget_in`: the slot is cleared, or there is none.
use Rattle.std.proofs.Common.{rules, ◌∙◌}
use native.Mathlib.Omega.{arith}
use mathlib.Core.Path.{◌≡◌}
use Rattle.std.specs.Prelude.{Some, None, Err}
use Rattle.lists.specs.Lists.{place_with}
use Rattle.book_slots.specs.Book.{has_name}
use Rattle.book_answers.specs.declared.BookError.TheVariants.{NotFiled}
use Rattle.book_jobs.proofs.JobLaws.{whole_count, told_some, told_none, found_inside, forgotten, not_forgotten}
use Rattle.book_jobs.proofs.forget_in.Goals as goal

pub returns-in_err-i : goal.returns-in_err-i
returns-in_err-i c =
    let r : c.from_residual.result ≡ Err c.in_err-i.field-0.0 = search rules in
    let e : c.in_err-i.field-0.0 ≡ NotFiled = grind arith in
    let n : c.find_slot.result ≡ None = grind arith in
    let q = told_none _ c.requires.slots_len _ c.slots_of.ensures (place_with (has_name c.args.form.now) 0) _ c.find_slot.ensures n in
    rw (r, e) (not_forgotten _ _ q)

pub clear_at-requires-clause-i_lt_count : goal.clear_at-requires-clause-i_lt_count
clear_at-requires-clause-i_lt_count c =
    let s : c.find_slot.result ≡ Some c.in_ok-i.i = grind arith in
    let q = told_some _ c.requires.slots_len _ c.slots_of.ensures (place_with (has_name c.args.form.now) 0) _ c.find_slot.ensures _ s in
    omega (arith, found_inside _ _ _ q, whole_count _ c.requires.slots_len)

pub returns : goal.returns
returns c =
    let s : c.find_slot.result ≡ Some c.in_ok-i.i = grind arith in
    let q = told_some _ c.requires.slots_len _ c.slots_of.ensures (place_with (has_name c.args.form.now) 0) _ c.find_slot.ensures _ s in
    forgotten _ _ _ _ q (rw (whole_count _ c.requires.slots_len) at c.clear_at.ensures)
