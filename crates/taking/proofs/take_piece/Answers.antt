-- A line that ends in the piece is served, and it was readable.
use Rattle.taking.proofs.Serving.{serving_line}
use Rattle.taking.proofs.take_piece.Goals as goal

pub loop-at-preserved-in-Line : goal.loop-at-preserved-in-Line
loop-at-preserved-in-Line g c = serving_line c.loop-at.invariant c.in-Line.ensures (c.serve.ensures c.if-not-serve.false)
