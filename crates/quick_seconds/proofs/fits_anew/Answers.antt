-- `fits_anew` meets its contract.
use mathlib.Core.Path.{sym, ◌∙◌}
use borrow.Author.Tests.{not-false}
use Rattle.quick_seconds.proofs.SecondLaws.{second_not, second_anew}
use Rattle.quick_seconds.proofs.fits_anew.Goals as goal

pub returns-then-is_syllable : goal.returns-then-is_syllable
returns-then-is_syllable c = second_not _ _ _ c.requires.good

pub returns-then-is_jamo : goal.returns-then-is_jamo
returns-then-is_jamo c = second_not _ _ _ c.requires.good

pub returns-then-not-in_quick_check : goal.returns-then-not-in_quick_check
returns-then-not-in_quick_check c = second_not _ _ _ c.requires.good

pub shape_of-good : goal.shape_of-good
shape_of-good c = c.is_no_head.ensures.kept.room ∙ sym c.requires.good.room

pub returns : goal.returns
returns c =
    second_anew _ _ _ _ (sym c.is_syllable.ensures ∙ c.if-is_syllable.false) (sym c.is_jamo.ensures ∙ c.if-is_jamo.false) (sym c.in_quick_check.ensures ∙ not-false _ c.if-not-in_quick_check.false-raw) c.is_no_head.ensures
