use mathlib.Core.Path.{sym, ◌∙◌}
use borrow.Author.Tests.{not-true, not-false}
use Rattle.passing.proofs.RunLaws.{run_start, leading_broken, leading_on, leading_done}
use Rattle.passing.proofs.syllables_pass.Goals as goal

pub loop-l-init : goal.loop-l-init
loop-l-init c = (run_start _ _ _, c.requires.unpaired)

pub leading_passes-requires : goal.leading_passes-requires
leading_passes-requires c =
    record { laid = c.requires.laid; unpaired = c.loop-l.invariant.1; seconds_held = c.requires.seconds_held; l_bound = c.loop-l-test.true }

pub shape_of-unpaired-then-not-leading_passes : goal.shape_of-unpaired-then-not-leading_passes
shape_of-unpaired-then-not-leading_passes c = c.leading_passes.ensures.unpaired.size ∙ sym c.requires.unpaired.size

pub returns-then-not-leading_passes : goal.returns-then-not-leading_passes
returns-then-not-leading_passes c =
    record { is = leading_broken _ _ c.loop-l.invariant.0 c.loop-l-test.true (sym c.leading_passes.ensures.is ∙ not-true _ c.if-not-leading_passes.true-raw); unpaired = c.leading_passes.ensures.unpaired }

pub loop-l-preserved : goal.loop-l-preserved
loop-l-preserved c =
    (leading_on _ _ c.loop-l.invariant.0 c.loop-l-test.true (sym c.leading_passes.ensures.is ∙ not-false _ c.if-not-leading_passes.false-raw), c.leading_passes.ensures.unpaired)

pub shape_of-unpaired : goal.shape_of-unpaired
shape_of-unpaired c = c.loop-l.invariant.1.size ∙ sym c.requires.unpaired.size

pub returns : goal.returns
returns c = record { is = leading_done _ _ c.loop-l.invariant.0 c.loop-l-test.false; unpaired = c.loop-l.invariant.1 }
