use Rattle.quick_filters.proofs.FilterLaws.{run_start, run_on, run-stop}
use mathlib.Core.Path.{refl, ◌∙◌}
use Rattle.quick_filters.proofs.filters.note_run.Goals as goal

pub loop-c-init : goal.loop-c-init
loop-c-init c = (run_start _ _, refl)

pub note-requires : goal.note-requires
note-requires c = c.loop-c.invariant.1 ∙ c.requires

pub loop-c-preserved : goal.loop-c-preserved
loop-c-preserved c = (run_on _ _ _ _ c.loop-c.c c.loop-c.invariant.0 c.note.ensures, c.note.ensures.grown.room ∙ c.loop-c.invariant.1)

pub note-requires-2 : goal.note-requires-2
note-requires-2 c = c.loop-c.invariant.1 ∙ c.requires

pub shape_of-set : goal.shape_of-set
shape_of-set c = c.note-2.ensures.grown.room ∙ c.loop-c.invariant.1

pub returns : goal.returns
returns c = run-stop _ _ _ _ c.loop-c.c _ c.loop-c.invariant.0 c.loop-c-test.false c.note-2.ensures
