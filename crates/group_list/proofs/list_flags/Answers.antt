use native.Mathlib.Omega.{arith}
use Rattle.group_list.proofs.PlaceLaws.{walk_start, walk_end, walk_more}
use Rattle.group_list.proofs.list_flags.Goals as goal

pub loop-i-init : goal.loop-i-init
loop-i-init g c = walk_start _ _ _

pub put_group-len-requires : goal.put_group-len-requires
put_group-len-requires g c = (omega (arith, c.told-flags, c.loop-i.invariant.few, c.loop-i-test.true), omega (arith, c.told-flags, c.loop-i-test.true))

pub loop-i-preserved : goal.loop-i-preserved
loop-i-preserved g c = walk_more _ _ _ _ _ _ c.loop-i.invariant (omega (arith, c.told-flags, c.loop-i-test.true)) _ _ _ (rw c.is_set.ensures at c.put_group-len.ensures)

pub shape_of-list : goal.shape_of-list
shape_of-list g c = c.loop-i.invariant.filling.holds.same

pub returns : goal.returns
returns g c = walk_end _ _ _ _ _ _ c.loop-i.invariant (omega (arith, c.told-flags, c.loop-i-test.false))
