-- `rule8::leading_passes` meets its contract.
use mathlib.Core.Path.{refl, sym, ◌∙◌}
use borrow.Author.Tests.{not-true, not-false}
use Rattle.passing.proofs.RunLaws.{leading_other, leading-run}
use Rattle.passing.proofs.leading_passes.Goals as goal

pub is_second-requires : goal.is_second-requires
is_second-requires c = record { laid = c.requires.laid; seconds_held = c.requires.seconds_held }

pub returns-then-not-is_second : goal.returns-then-not-is_second
returns-then-not-is_second c =
    record { is = leading_other _ _ (sym (not-true _ c.if-not-is_second.true-raw) ∙ c.is_second.ensures); unpaired = c.requires.unpaired }

pub run_passes-requires : goal.run_passes-requires
run_passes-requires c = record { laid = c.requires.laid; unpaired = c.requires.unpaired; seconds_held = c.requires.seconds_held }

pub shape_of-unpaired : goal.shape_of-unpaired
shape_of-unpaired c = c.run_passes.ensures.unpaired.size ∙ sym c.requires.unpaired.size

pub returns : goal.returns
returns c =
    record { is = leading-run _ _ _ _ _ (sym (not-false _ c.if-not-is_second.false-raw) ∙ c.is_second.ensures) refl refl c.run_passes.ensures.is; unpaired = c.run_passes.ensures.unpaired }
