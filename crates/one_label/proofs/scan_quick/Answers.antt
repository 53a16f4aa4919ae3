-- `scan_quick`: nothing where rule 8 was not found to hold.
use mathlib.Core.Path.{sym, ◌∙◌, refl}
use borrow.Author.Tests.{not-false}
use Rattle.one_label.proofs.Judging.{quick_scanned}
use Rattle.one_label.proofs.scan_quick.Goals as goal

pub returns-then-not-has : goal.returns-then-not-has
returns-then-not-has c = record { same = refl; is = tt }

pub returns : goal.returns
returns c =
    quick_scanned _ 0 0 0 _ _ _ _ (c.requires.unpaired.quick (sym c.has.ensures ∙ not-false _ c.if-not-has.false-raw)) c.scan_kept.ensures
