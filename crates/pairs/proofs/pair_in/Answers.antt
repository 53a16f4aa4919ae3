use mathlib.Core.Path.{sym, ◌∙◌}
use native.Mathlib.Omega.{arith}
use Rattle.pairs.proofs.Pairs.{pair_start, pair_fits, pair-number, pair_numbered, pair_hit, pair_on, pair-stop}
use Rattle.pairs.proofs.pair_in.Goals as goal

pub loop-at-init : goal.loop-at-init
loop-at-init c =
    let s = c in
    pair_start _ _ _ _ _ _ _ s.requires.laid s.requires.part_value s.requires.unpaired s.requires.bounds

pub pair_at-requires : goal.pair_at-requires
pair_at-requires c =
    let s = c in
    let w = c.loop-at.invariant in
    let h = c.loop-at-test.true in
    record { laid = s.requires.laid; unpaired = (w.unpaired, pair-number _ _ _ _ _ _ _ w h); at_in_bounds = pair_fits _ _ _ _ _ _ _ w h; at_value = pair_numbered _ _ _ _ _ _ _ w h }

pub bounds-part-at : goal.bounds-part-at
bounds-part-at c = omega (arith, c.loop-at-test.true, c.loop-at.invariant.inside)

pub shape_of-unpaired-then-pair_at : goal.shape_of-unpaired-then-pair_at
shape_of-unpaired-then-pair_at c = c.pair_at.ensures.unpaired.size ∙ sym c.requires.unpaired.size

pub returns-then-pair_at : goal.returns-then-pair_at
returns-then-pair_at c = pair_hit _ _ _ _ _ _ _ c.loop-at.invariant c.loop-at-test.true _ _ c.pair_at.ensures c.if-pair_at.true

pub behind-at-requires : goal.behind-at-requires
behind-at-requires c = pair_fits _ _ _ _ _ _ _ c.loop-at.invariant c.loop-at-test.true

pub loop-at-smaller : goal.loop-at-smaller
loop-at-smaller c = omega (arith, c.behind-at.ensures, c.loop-at-test.true)

pub loop-at-preserved : goal.loop-at-preserved
loop-at-preserved c =
    pair_on _ _ _ _ _ _ _ c.loop-at.invariant c.loop-at-test.true _ _ c.pair_at.ensures _ c.behind-at.ensures c.if-pair_at.false

pub shape_of-unpaired : goal.shape_of-unpaired
shape_of-unpaired c = c.loop-at.invariant.unpaired.size ∙ sym c.requires.unpaired.size

pub returns : goal.returns
returns c = pair-stop _ _ _ _ _ _ _ c.loop-at.invariant c.loop-at-test.false
