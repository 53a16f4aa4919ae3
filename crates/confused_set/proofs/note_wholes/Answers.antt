use native.Mathlib.Omega.{arith}
use mathlib.Core.Path.{◌∙◌}
use Rattle.confused_set.proofs.FilterLaws.{noting_start, noting_stop, here, confused_room, confused_fits, noting_less, noting_on}
use Rattle.confused_set.proofs.note_wholes.Goals as goal

pub loop-i-init : goal.loop-i-init
loop-i-init c = noting_start _ _ c.requires.part_value

pub counted-valid-requires : goal.counted-valid-requires
counted-valid-requires c = omega (arith, (here _ _ _ c.loop-i.i c.loop-i.invariant c.loop-i-test.true).fits)

pub counted-confused-requires : goal.counted-confused-requires
counted-confused-requires c = confused_room _ _ _ c.loop-i.i c.loop-i.invariant c.loop-i-test.true _ c.counted-valid.result c.counted-valid.ensures

pub of-requires : goal.of-requires
of-requires c = confused_fits _ _ _ c.loop-i.i c.loop-i.invariant c.loop-i-test.true _ _ c.counted-valid.ensures c.counted-confused.ensures

pub note_items-requires : goal.note_items-requires
note_items-requires c = c.loop-i.invariant.put.room ∙ c.requires.set_len

pub loop-i-smaller : goal.loop-i-smaller
loop-i-smaller c =
    let n = c.loop-i.invariant in
    let h = c.loop-i-test.true in
    let a = c.counted-valid.ensures in
    let b = c.counted-confused.ensures in
    omega (arith, noting_less _ _ _ c.loop-i.i n h _ _ a b, (confused_fits _ _ _ c.loop-i.i n h _ _ a b).inside)

pub loop-i-preserved : goal.loop-i-preserved
loop-i-preserved c =
    noting_on _ _ _ c.loop-i.i c.loop-i.invariant c.loop-i-test.true _ _ c.counted-valid.ensures c.counted-confused.ensures _ (rw c.of.ensures at c.note_items.ensures)

pub shape_of-set : goal.shape_of-set
shape_of-set c = c.loop-i.invariant.put.room

pub returns : goal.returns
returns c = noting_stop _ _ _ c.loop-i.i c.loop-i.invariant c.loop-i-test.false
