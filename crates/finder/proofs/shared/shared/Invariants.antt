-- `finder::shared::shared` meets its contract, item by item.
use Rattle.finder.specs.Shared.{Shared}
use Rattle.finder.proofs.shared.shared.Given as goal

abbrev pub invariant-loop-k : goal.invariant-loop-k
invariant-loop-k l = Shared l.a l.b l.k
