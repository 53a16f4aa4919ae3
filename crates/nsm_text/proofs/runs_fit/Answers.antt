-- `runs_fit` meets its contract: the whole test, from rows that are empty.
use borrow.Author.Tests.{not-true, not-false}
use Rattle.nsm_rows.proofs.ReadingLaws.{small_class}
use Rattle.nsm_text.proofs.Answer.{fresh-sized, whole_fails, whole_done}
use Rattle.nsm_text.proofs.runs_fit.Goals as goal

pub take_text-requires : goal.take_text-requires
take_text-requires c = record { laid = c.requires.laid; sized = fresh-sized _ c.requires.w_value }

pub returns-then-not-take_text : goal.returns-then-not-take_text
returns-then-not-take_text c =
    let s = c in
    let p = c.take_text in
    whole_fails _ (small_class s.args.words.now) _ _ _ s.requires.w_value _ p.ensures (not-true _ c.if-not-take_text.true-raw)

pub pour_all-requires : goal.pour_all-requires
pour_all-requires c = c.take_text.ensures.sized (not-false _ c.if-not-take_text.false-raw)

pub returns : goal.returns
returns c =
    let s = c in
    let p = c.take_text in
    whole_done _ (small_class s.args.words.now) _ _ _ s.requires.w_value _ p.ensures (not-false _ c.if-not-take_text.false-raw) _ _ c.pour_all.ensures
