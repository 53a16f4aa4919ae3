-- `finder::emoji::find` meets its contract: what is found in the emoji section is what the table has.
use mathlib.Core.Path.{sym}
use lib.Seq.{length-take-le}
use Rattle.sections.proofs.SectionLaws.{laid-fits}
use Rattle.finder.proofs.FindingLaws.{found_at, found_nothing}
use Rattle.finder.proofs.emoji.find.Goals as goal

pub of-requires : goal.of-requires
of-requires c = (laid-fits _ _ c.requires).emoji

pub slice_bounds-selectors_in-end : goal.slice_bounds-selectors_in-end
slice_bounds-selectors_in-end c =
    let r = found_at _ _ c.requires _ _ (rw c.of.ensures at c.find_in.ensures) _ c.in_ok-m.was in
    sym (length-take-le _ _ r.takes.1)

pub returns : goal.returns
returns c =
    let r = found_at _ _ c.requires _ _ (rw c.of.ensures at c.find_in.ensures) _ c.in_ok-m.was in
    rw c.selectors_in.ensures r

pub returns-in_err-m : goal.returns-in_err-m
returns-in_err-m c = rw c.from_residual.ensures (found_nothing _ _ c.requires _ _ (rw c.of.ensures at c.find_in.ensures) c.in_err-m.was)
