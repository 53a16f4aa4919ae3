-- `fill` meets its contract: the components stand behind the key.
use native.Mathlib.Omega.{arith}
use lib.ListN.{length-take, length-drop}
use Rattle.sections.proofs.SectionLaws.{laid-fits, laid_small}
use Rattle.sections.proofs.LaidParts.{laid_part, laid_same}
use Rattle.memo.proofs.MemoLaws.{filled_from, small_fits}
use Rattle.memo.proofs.fill.Goals as goal

pub put_key-requires : goal.put_key-requires
put_key-requires c =
    let p = c.requires in
    let s = laid_small _ _ p.laid in
    record { slot_len = p.slot_len; small = (small_fits _ _ s p.fits.0, small_fits _ _ s p.fits.1) }

pub of-requires : goal.of-requires
of-requires c = (laid-fits _ _ c.requires.laid).groups

pub components-requires : goal.components-requires
components-requires c =
    record { groups_part = rw c.of.ensures (laid_part _ _ c.requires.laid); k_len = simp (length-take, length-drop) (omega (arith, c.put_key.ensures.size)) }

pub returns : goal.returns
returns c =
    filled_from _ _ _ _ _ _ (laid_same _ _ c.requires.laid) c.put_key.ensures (rw (c.of.ensures, c.of-2.ensures, c.of-3.ensures) at c.components.ensures)
