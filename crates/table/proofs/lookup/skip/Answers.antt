use Rattle.table.proofs.Fours.{fours_on}
use Rattle.table.proofs.lookup.skip.Goals as goal

pub loop-i-preserved : goal.loop-i-preserved
loop-i-preserved g c = fours_on _ _ _ c.loop-i.i c.loop-i.invariant c.loop-i-test.true c.if-in_four.ensures
