-- `note_said` meets its contract, section by section.
use Rattle.lists.specs.Tests.{never}
use mathlib.Core.Bool.{true}
use mathlib.Core.Path.{refl, sym, ◌∙◌}
use borrow.Author.Tests.{not-false}
use Rattle.sections.proofs.SectionLaws.{laid-fits, laid_small}
use Rattle.sections.proofs.LaidParts.{laid-excluded}
use Rattle.quick_records.proofs.FitLaws.{said_clear}
use native.Mathlib.Omega.{arith}
use Rattle.quick_records.proofs.note_said.Goals as goal

pub of-requires : goal.of-requires
of-requires c = (laid-fits _ _ c.requires.0).quick

pub returns-then-not-note_runs : goal.returns-then-not-note_runs
returns-then-not-note_runs c = λ e. never true refl (sym e)

pub of-requires-2 : goal.of-requires-2
of-requires-2 c = (laid-fits _ _ c.requires.0).classes

pub returns-then-not-note_runs-2 : goal.returns-then-not-note_runs-2
returns-then-not-note_runs-2 c = λ e. never true refl (sym e)

pub overflow_add-e : goal.overflow_add-e
overflow_add-e c =
    let x = laid-excluded _ _ c.requires.0 in
    omega (arith, x.some_left, x.fits.inside, laid_small _ _ c.requires.0)

pub offset_bounds-words-e : goal.offset_bounds-words-e
offset_bounds-words-e c =
    let x = laid-excluded _ _ c.requires.0 in
    omega (arith, x.some_left, x.fits.inside, laid_small _ _ c.requires.0)

pub slice_bounds-note_runs-count : goal.slice_bounds-note_runs-count
slice_bounds-note_runs-count c =
    let x = laid-excluded _ _ c.requires.0 in
    omega (arith, x.some_left, x.fits.inside, laid_small _ _ c.requires.0)

pub slice_bounds-note_runs-start : goal.slice_bounds-note_runs-start
slice_bounds-note_runs-start c =
    let x = laid-excluded _ _ c.requires.0 in
    omega (arith, x.some_left, x.fits.inside, laid_small _ _ c.requires.0)

pub slice_bounds-note_runs-end : goal.slice_bounds-note_runs-end
slice_bounds-note_runs-end c =
    let x = laid-excluded _ _ c.requires.0 in
    omega (arith, x.some_left, x.fits.inside, laid_small _ _ c.requires.0)

pub note_runs-requires-3 : goal.note_runs-requires-3
note_runs-requires-3 c = (omega arith, c.note_runs-2.ensures.grown.room ∙ c.note_runs.ensures.grown.room ∙ c.requires.1)

pub returns : goal.returns
returns c =
    λ e. said_clear _ _ c.requires.0 _ _ _ _ _ _ _ c.requires.1 (rw c.of.ensures at c.note_runs.ensures) (not-false _ c.if-not-note_runs.false-raw) (rw c.of-2.ensures at c.note_runs-2.ensures) (not-false _ c.if-not-note_runs-2.false-raw) c.note_runs-3.ensures e
