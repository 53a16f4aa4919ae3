use mathlib.Core.Path.{sym, ◌∙◌}
use borrow.Author.Tests.{not-true, not-false}
use Rattle.passing.proofs.RunLaws.{run_start, run_broken, run_on, run_done}
use Rattle.passing.proofs.run_passes.Goals as goal

pub loop-c-init : goal.loop-c-init
loop-c-init c = (run_start _ _ _, c.requires.unpaired)

pub passes-requires : goal.passes-requires
passes-requires c = record { laid = c.requires.laid; unpaired = c.loop-c.invariant.1; seconds_held = c.requires.seconds_held }

pub shape_of-unpaired-then-not-passes : goal.shape_of-unpaired-then-not-passes
shape_of-unpaired-then-not-passes c = c.passes.ensures.unpaired.size ∙ sym c.requires.unpaired.size

pub returns-then-not-passes : goal.returns-then-not-passes
returns-then-not-passes c =
    record { is = run_broken _ _ _ _ c.loop-c.invariant.0 c.loop-c-test.true (sym c.passes.ensures.is ∙ not-true _ c.if-not-passes.true-raw); unpaired = c.passes.ensures.unpaired }

pub loop-c-preserved : goal.loop-c-preserved
loop-c-preserved c =
    (run_on _ _ _ _ c.loop-c.invariant.0 c.loop-c-test.true (sym c.passes.ensures.is ∙ not-false _ c.if-not-passes.false-raw), c.passes.ensures.unpaired)

pub shape_of-unpaired : goal.shape_of-unpaired
shape_of-unpaired c = c.loop-c.invariant.1.size ∙ sym c.requires.unpaired.size

pub returns : goal.returns
returns c = record { is = run_done _ _ _ _ c.loop-c.invariant.0 c.loop-c-test.false; unpaired = c.loop-c.invariant.1 }
