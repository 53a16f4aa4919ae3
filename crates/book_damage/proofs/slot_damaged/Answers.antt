-- `slot_damaged`: each return is one end of the tests.
use native.Mathlib.Omega.{arith}
use Rattle.book_damage.proofs.Damages.{too_long, words-past, account_left, not_damaged}
use Rattle.book_damage.proofs.slot_damaged.Goals as goal

pub returns-then-n-gt-FORM : goal.returns-then-n-gt-FORM
returns-then-n-gt-FORM c = too_long c.args.slot.now c.if-n-gt-FORM.true

pub returns-then-not-all_zero : goal.returns-then-not-all_zero
returns-then-not-all_zero c =
    let z = c in
    words-past z.args.slot.now (omega arith) _ z.all_zero.ensures c.if-not-all_zero.true-raw

pub returns-then-n-eq0 : goal.returns-then-n-eq0
returns-then-n-eq0 c =
    let t = c in
    let z = t in
    account_left z.args.slot.now (omega arith) _ z.all_zero.ensures t.if-not-all_zero.false-raw
    c.told-slot t.if-n-eq0.true _ c.all_zero-then-n-eq0.ensures

pub returns : goal.returns
returns c =
    let z = c in
    not_damaged z.args.slot.now (omega arith) _ z.all_zero.ensures c.if-not-all_zero.false-raw
    c.if-n-eq0.false
