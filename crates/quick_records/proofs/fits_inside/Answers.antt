-- `fits_inside` meets its contract.
use mathlib.Core.Path.{refl}
use Rattle.quick_records.proofs.FitLaws.{record_unpaired, record_inside, other_number, two_items}
use Rattle.quick_records.proofs.fits_inside.Goals as goal

pub returns-then-items-ne2 : goal.returns-then-items-ne2
returns-then-items-ne2 c = other_number _ _ _ _ _ c.requires.good c.if-items-ne2.true

pub returns-then-second_fits : goal.returns-then-second_fits
returns-then-second_fits c =
    two_items _ _ _ _ _ _ c.if-items-ne2.false (record_inside _ _ _ _ _ _ _ c.second_fits.ensures refl c.if-second_fits.true)

pub returns : goal.returns
returns c =
    two_items _ _ _ _ _ _ c.if-items-ne2.false
    (record_unpaired _ _ _ _ _ _ _ c.second_fits.ensures refl _ c.may_compose.ensures)
