-- `put` meets its contract.
use Rattle.decomposition.proofs.RoundLaws.{append_none}
use Rattle.decomposition.proofs.put.Goals as goal

pub returns-else-at-out : goal.returns-else-at-out
returns-else-at-out c = append_none c.args.out.now c.args.at c.args.c c.if-at-out.false
