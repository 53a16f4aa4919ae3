-- `second_fits` meets its contract: what is kept fits.
use mathlib.Core.Path.{sym, ◌∙◌}
use borrow.Author.Tests.{not-false}
use Rattle.quick_seconds.proofs.SecondLaws.{second_not, second-kept, second_new}
use native.Mathlib.Omega.{arith}
use Rattle.quick_seconds.proofs.second_fits.Goals as goal

pub returns-then-b-eq0 : goal.returns-then-b-eq0
returns-then-b-eq0 c = second_not _ _ _ c.requires.good

pub returns-then-good-i : goal.returns-then-good-i
returns-then-good-i c = second-kept _ _ _ c.requires.good _ c.if-b-eq0.false c.if-good-i.true (omega arith)

pub shape_of-good-then-not-fits_anew : goal.shape_of-good-then-not-fits_anew
shape_of-good-then-not-fits_anew c = c.fits_anew.ensures.kept.room ∙ sym c.requires.good.room

pub returns-then-not-fits_anew : goal.returns-then-not-fits_anew
returns-then-not-fits_anew c = second_not _ _ _ c.fits_anew.ensures.kept

pub bounds-good-i-2 : goal.bounds-good-i-2
bounds-good-i-2 c = omega (arith, c.fits_anew.ensures.kept.room)

pub returns : goal.returns
returns c =
    second_new _ _ _ c.fits_anew.ensures.kept _ (omega arith) (c.fits_anew.ensures.fits (not-false _ c.if-not-fits_anew.false-raw))
