-- Nothing is held at first.
use Rattle.std.proofs.Common.{refl, arith}
use Rattle.lines.proofs.Pieces.{holding_none}
use Rattle.counter.proofs.run.Goals as goal

pub loop-init : goal.loop-init
loop-init g c = record { holding = holding_none _ refl; count = omega arith }
