-- `fill_slot`: the form, then the account.
use native.Mathlib.Omega.{arith}
use lib.ListN.{length-take, length-drop}
use Rattle.book_keeping.proofs.Writing.{account_put}
use Rattle.book_keeping.proofs.fill_slot.Goals as goal

pub put_words-requires : goal.put_words-requires
put_words-requires c = simp (length-take, length-drop) (omega arith)

pub returns : goal.returns
returns c =
    let w = c in
    let p = w in
    let s = p in
    account_put s.args.form.now s.args.account.words s.args.slot.now _ _ s.requires.form_len_bound s.requires.slot_len
    (omega arith) p.put_form.ensures c.put_words.ensures
