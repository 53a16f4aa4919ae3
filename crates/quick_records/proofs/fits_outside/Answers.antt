-- `fits_outside` meets its contract.
use borrow.Author.Tests.{not-false}
use Rattle.quick_records.proofs.FitLaws.{record_not, record_outside, other_number, two_items}
use Rattle.quick_records.proofs.fits_outside.Goals as goal

pub returns-then-items-ne2 : goal.returns-then-items-ne2
returns-then-items-ne2 c = other_number _ _ _ _ _ c.requires.good c.if-items-ne2.true

pub returns-then-not-second_fits : goal.returns-then-not-second_fits
returns-then-not-second_fits c = record_not _ _ _ 0 0 _ _ c.second_fits.ensures _

pub returns-then-not-composes : goal.returns-then-not-composes
returns-then-not-composes c = record_not _ _ _ 0 0 _ _ c.second_fits.ensures _

pub returns : goal.returns
returns c =
    two_items _ _ _ _ _ _ c.if-items-ne2.false
    (record_outside _ _ _ _ _ _ _ c.second_fits.ensures (not-false _ c.if-not-second_fits.false-raw)
    (c.composes.ensures (not-false _ c.if-not-composes.false-raw)) _ c.stands_behind.ensures)
