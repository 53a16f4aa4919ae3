-- `moved_judged`: 40 and 41, 1 and 2, or the entries.
use mathlib.Core.Path.{◌∙◌, ap}
use Rattle.std.proofs.lemmas.Result.{err_from_is_err_and}
use Rattle.lists.specs.Lists.{any}
use Rattle.book_slots.specs.Damage.{slot_damaged}
use Rattle.name.proofs.Answering.{admits}
use Rattle.moved.proofs.MovedLaws.{whole-slots, slots_few, judged_area, judged_1_2, judged_entries, opened-whole, opened-not, not_admitted}
use Rattle.moved.proofs.moved_judged.Goals as goal

pub returns-in_err-slots : goal.returns-in_err-slots
returns-in_err-slots c =
    let p = err_from_is_err_and c.from_residual.result c.from_residual.ensures.1 in
    rw (p.1, p.2) (judged_area _ _ _ _ _ (opened-not _ _ c.open.ensures _ c.in_err-slots.was))

pub returns-in_err-ix : goal.returns-in_err-ix
returns-in_err-ix c =
    let p = err_from_is_err_and c.from_residual-in_err-ix.result c.from_residual-in_err-ix.ensures.1 in
    let o = opened-whole c.args.area.now _ c.open.ensures _ c.in_ok-slots.was in
    rw (p.1, p.2) (judged_1_2 _ _ _ _ o.0 _ (not_admitted _ _ _ c.admit.ensures _ c.in_err-ix.was))

pub list_book-len-requires : goal.list_book-len-requires
list_book-len-requires c =
    let o = opened-whole c.args.area.now _ c.open.ensures _ c.in_ok-slots.was in
    let a = admits _ _ _ _ c.admit.ensures _ c.in_ok-ix.was in
    record { whole = (slots_few c.args.area.now _ o.1, ap (any slot_damaged) o.1 ∙ whole-slots c.args.area.now o.0); laid = (a.laid, a.enough) }

pub shape_of-list : goal.shape_of-list
shape_of-list c = c.list_book-len.ensures.holds.same

pub shape_of-work : goal.shape_of-work
shape_of-work c = c.list_book-len.ensures.same-work

pub returns : goal.returns
returns c =
    let o = opened-whole c.args.area.now _ c.open.ensures _ c.in_ok-slots.was in
    judged_entries _ _ _ _ o.0 (admits _ _ _ _ c.admit.ensures _ c.in_ok-ix.was).admits _ _ _ (rw o.1 at c.list_book-len.ensures)
