-- `take_piece`: each turn takes a line, or the rest of the piece.
use Rattle.std.proofs.Common.{length, ◌-◌}
use Rattle.taking.proofs.Serving.{Serving}
use Rattle.taking.proofs.take_piece.Given as goal

abbrev pub invariant-loop-at : goal.invariant-loop-at
invariant-loop-at g l = Serving l.piece l.fn.line l.fn.state.held l.fn.state.names l.line l.held l.names l.at

abbrev pub decreases-loop-at : goal.decreases-loop-at
decreases-loop-at g l = length l.piece - l.at
