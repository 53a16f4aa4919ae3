-- `read_line`: after n turns, n words are read.
use Prim.Native.Nat.{◌-◌}
use lib.ListN.{length}
use Rattle.line_reading.proofs.Readings.{Words}
use Rattle.line_reading.proofs.reading.read_line.Given as goal

abbrev pub invariant-loop-value : goal.invariant-loop-value
invariant-loop-value l = Words l.line l.initial.out l.out l.at l.n

abbrev pub decreases-loop-value : goal.decreases-loop-value
decreases-loop-value l = length l.line - l.at
