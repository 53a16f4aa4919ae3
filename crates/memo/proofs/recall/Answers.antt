-- `recall` meets its contract: the slot is there, or is written.
use Prim.Native.Nat.{◌%◌, ◌+◌, ◌*◌}
use native.Mathlib.Omega.{arith}
use lib.ListN.{get_or}
use Rattle.sections.proofs.SectionLaws.{laid_small}
use Rattle.memo.specs.Memo.{slot_count, slot_size}
use Rattle.memo.proofs.MemoLaws.{recalled_new, small_fits}
use Rattle.memo.proofs.recall.Goals as goal

pub find-requires-clause-small : goal.find-requires-clause-small
find-requires-clause-small c =
    let s = laid_small _ _ c.requires.laid in
    (small_fits _ _ s c.requires.fits.0, small_fits _ _ s c.requires.fits.1)

pub returns : goal.returns
returns c =
    let m = c.args.memo.now in
    recalled_new _ m c.requires.memo (get_or m (slot_count * slot_size) 0 % slot_count + 1) _ _ _ (get_or m (slot_count * slot_size) 0 % slot_count) (omega arith) c.fill.ensures
