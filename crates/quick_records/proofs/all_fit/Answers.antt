use mathlib.Core.Path.{refl, ◌∙◌}
use Rattle.table.specs.Layout.{the_table}
use Rattle.sound_parts.specs.Parts.{record_of}
use Rattle.quick_records.proofs.FitLaws.{Judged, judged_inside, judged_outside, decides_start, decides_more, decides_all}
use native.Mathlib.Omega.{arith}
use Rattle.quick_records.proofs.all_fit.Goals as goal
use Rattle.quick_records.proofs.all_fit.Goals.{then-covers, else-covers}

pub loop-head-init : goal.loop-head-init
loop-head-init c =
    let of = c.requires.lent.1.by_head.of in
    (rw c.into_iter-head-iterator.ensures.into_iter_gives (decides_start _ _ _ of (c.of-head-items.ensures.all of.holds)), c.requires.good.0, omega arith, omega arith, refl)

pub loop-head-preserved : goal.loop-head-preserved
loop-head-preserved c =
    let i = c.loop-head in
    let judged : Judged (the_table c.args.words.now) c.if-covers.good (record_of c.in-Some.head c.in-Some.items.now) c.if-covers.fits =
    elim c.if-covers.branch [
      | then-covers w ↦ rw (w.good-is, w.fits-is) (judged_inside _ _ _ _ _ c.requires.good.1 (c.covers.ensures w.if-covers.true) w.fits_inside-fits.ensures)
      | else-covers w ↦ rw (w.good-is, w.fits-is) (judged_outside _ _ _ _ w.fits_outside-fits.ensures)
    ] in (
      decides_more _ _ i.invariant.0 _ _ c.in-Some.ensures.steps (judged.fits c.if-not-fits.false),
      judged.kept,
      c.advance-k.ensures.0,
      c.advance-k.ensures.1,
      c.if-covers.auto.good ∙ i.invariant.4,
    )

pub returns : goal.returns
returns c = λ e. decides_all _ _ c.loop-head.invariant.0 c.in-None.ensures.steps.0
