-- `find_in`: the account of the slot, or there is none.
use Rattle.std.proofs.Common.{rules, ◌∙◌}
use native.Mathlib.Omega.{arith}
use mathlib.Core.Path.{◌≡◌}
use Rattle.std.specs.Prelude.{Some, None, Err}
use Rattle.lists.specs.Lists.{place_with}
use Rattle.book_slots.specs.Book.{has_name}
use Rattle.book_answers.specs.declared.BookError.TheVariants.{NotFiled}
use Rattle.book_jobs.proofs.JobLaws.{told_some, told_none, inside_lent, account_here, found_inside, found, not_found}
use Rattle.book_jobs.proofs.find_in.Goals as goal

pub returns-in_err-i : goal.returns-in_err-i
returns-in_err-i c =
    let r : c.from_residual.result ≡ Err c.in_err-i.field-0.0 = search rules in
    let e : c.in_err-i.field-0.0 ≡ NotFiled = grind arith in
    let n : c.find_slot.result ≡ None = grind arith in
    let q = told_none _ c.requires.slots_len _ c.slots_of-slots.ensures (place_with (has_name c.args.form.now) 0) _ c.find_slot.ensures n in
    rw (r, e) (not_found _ _ q)

pub offset_bounds-slots-i : goal.offset_bounds-slots-i
offset_bounds-slots-i c =
    let s : c.find_slot.result ≡ Some c.in_ok-i.i = grind arith in
    let q = told_some _ c.requires.slots_len _ c.slots_of-slots.ensures (place_with (has_name c.args.form.now) 0) _ c.find_slot.ensures _ s in
    omega (arith, found_inside _ _ _ q)

pub bounds-slots-i : goal.bounds-slots-i
bounds-slots-i c =
    let s : c.find_slot.result ≡ Some c.in_ok-i.i = grind arith in
    let q = told_some _ c.requires.slots_len _ c.slots_of-slots.ensures (place_with (has_name c.args.form.now) 0) _ c.find_slot.ensures _ s in
    inside_lent _ c.requires.slots_len _ c.slots_of-slots.ensures _ (found_inside _ _ _ q)

pub returns : goal.returns
returns c =
    let s : c.find_slot.result ≡ Some c.in_ok-i.i = grind arith in
    let q = told_some _ c.requires.slots_len _ c.slots_of-slots.ensures (place_with (has_name c.args.form.now) 0) _ c.find_slot.ensures _ s in
    found _ _ c.requires.slots_len _ _ q
    (c.account_of.ensures ∙ account_here _ c.requires.slots_len _ c.slots_of-slots.ensures _ (found_inside _ _ _ q) _)
