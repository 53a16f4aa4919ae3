-- `run`: each turn adds no more names than a piece has bytes.
use Rattle.std.proofs.Common.{◌*◌}
use Rattle.taking.specs.Promise.{most_piece, Ready}
use Rattle.counter.proofs.run.Given as goal

abbrev pub invariant-loop : goal.invariant-loop
invariant-loop g l = Ready l.line l.state (most_piece * l.counter)
