-- `put_form`: the form, then its length in front.
use Rattle.book_keeping.proofs.Writing.{form_put}
use Rattle.book_keeping.proofs.put_form.Goals as goal

pub returns : goal.returns
returns c =
    let p = c in
    let s = p in
    form_put s.args.slot.now s.args.form.now _ s.requires.slot_len s.requires.form_len_bound p.put_words.ensures
