-- `compounds::compounds_fit` meets its contract: the list is looked for only where the group is whitelisted.
use mathlib.Core.Path.{◌∙◌}
use Rattle.table.specs.Layout.{the_table}
use Rattle.compounds.proofs.CompoundLaws.{fits_unasked, fits-asked, fits_unlisted, fits-listed}
use Rattle.sections.proofs.SectionLaws.{laid-fits}
use Rattle.sections.proofs.LaidParts.{laid_part, laid_same}
use Rattle.compounds.proofs.compounds_fit.Goals as goal

pub of-requires : goal.of-requires
of-requires c = (laid-fits _ _ c.requires).groups

pub list_in-requires : goal.list_in-requires
list_in-requires c = rw c.of.ensures (laid_part _ _ c.requires)

pub returns-then-not-whitelisted : goal.returns-then-not-whitelisted
returns-then-not-whitelisted c = fits_unasked c.args.whitelisted _ c.if-not-whitelisted.true-raw

pub all_listed-requires : goal.all_listed-requires
all_listed-requires c = record { laid = c.requires; list_value = c.in-Some.ensures.holds }

pub returns-in-Some : goal.returns-in-Some
returns-in-Some c =
    c.all_listed.ensures ∙ fits-listed (the_table c.args.words.now) _ c.args.text.now _ (rw (← laid_same _ _ c.requires, ← c.of.ensures) c.in-Some.ensures) ∙ fits-asked c.args.whitelisted _ c.if-not-whitelisted.false-raw

pub returns-in-None : goal.returns-in-None
returns-in-None c =
    fits_unlisted (the_table c.args.words.now) _ c.args.text.now (rw (← laid_same _ _ c.requires, ← c.of.ensures) c.in-None.ensures) ∙ fits-asked c.args.whitelisted _ c.if-not-whitelisted.false-raw
