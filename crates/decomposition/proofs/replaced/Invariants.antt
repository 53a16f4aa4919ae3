-- `replaced` meets its contract: the loop copies what is put, one by one.
use Rattle.decomposition.specs.Rounds.{items_by}
use Rattle.decomposition.proofs.Replacing.{Copying}
use Rattle.decomposition.proofs.replaced.Given as goal

abbrev pub invariant-loop-i : goal.invariant-loop-i
invariant-loop-i l = Copying (items_by l.words l.by) l.items l.i
