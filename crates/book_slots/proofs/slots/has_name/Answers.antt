-- `has_name`: the lengths first, then the words.
use native.Mathlib.Omega.{arith}
use Rattle.book_slots.proofs.Naming.{other_length, same_length}
use Rattle.book_slots.proofs.slots.has_name.Goals as goal

pub returns-then-n-form : goal.returns-then-n-form
returns-then-n-form c = other_length c.args.slot.now c.args.form.now c.if-n-form.true

pub returns : goal.returns
returns c =
    let s = c in
    same_length s.args.slot.now s.args.form.now _ s.requires (omega arith) c.same.ensures
