-- `place_marks::with_mark` meets its contract, test by test.
use Rattle.place_marks.proofs.Setting.{mark_large, mark_set}
use Rattle.place_marks.proofs.with_mark.Goals as goal

pub returns-then-at-gt-MOST_PLACE : goal.returns-then-at-gt-MOST_PLACE
returns-then-at-gt-MOST_PLACE c = mark_large _ _ c.if-at-gt-MOST_PLACE.true

pub returns : goal.returns
returns c = mark_set _ _ c.if-at-gt-MOST_PLACE.false
