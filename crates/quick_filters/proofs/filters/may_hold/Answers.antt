-- `may_hold` meets its contract: the bits are asked in turn.
use borrow.Author.Tests.{not-true, not-false}
use Rattle.quick_filters.proofs.FilterLaws.{held_not, held_neither, held_last}
use Rattle.quick_filters.proofs.filters.may_hold.Goals as goal

pub returns-then-not-has : goal.returns-then-not-has
returns-then-not-has c = held_not _ _ _ (rw c.place.ensures.0 at c.has.ensures) (not-true _ c.if-not-has.true-raw)

pub returns-then-not-has-2 : goal.returns-then-not-has-2
returns-then-not-has-2 c =
    held_neither _ _ _ (rw c.place.ensures.0 at c.has.ensures) _ (rw c.strewn_place.ensures.0 at c.has-2.ensures) (not-false _ c.if-not-has.false-raw) (not-true _ c.if-not-has-2.true-raw)

pub returns : goal.returns
returns c =
    held_last _ _ _ (rw c.place.ensures.0 at c.has.ensures) _ (rw c.strewn_place.ensures.0 at c.has-2.ensures) (not-false _ c.if-not-has.false-raw) _ (not-false _ c.if-not-has-2.false-raw) (rw c.strewn_place-2.ensures.0 at c.has-3.ensures)
