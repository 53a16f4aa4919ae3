use Rattle.quick_filters.proofs.FilterLaws.{chunked_on}
use Rattle.quick_filters.proofs.filters.note_runs.Goals as goal

pub loop-entry-preserved : goal.loop-entry-preserved
loop-entry-preserved c =
    let step = c.in-Some.ensures.steps in
    chunked_on _ _ _ _ _ _ _ c.loop-entry.invariant c.in-Some.entry.now _ _ step.1.0 step.1.1 step.0 c.requires.0 _ c.note_run.ensures
