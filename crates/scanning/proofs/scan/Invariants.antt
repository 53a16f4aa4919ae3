-- `scanning::scan` meets its contract: the loop keeps the steps that are laid down, and those that are left.
use Prim.Native.Nat.{◌-◌}
use lib.ListN.{length}
use Rattle.table.specs.Layout.{the_table}
use Rattle.scanning.proofs.Steps.{Scanning}
use Rattle.scanning.proofs.scan.Given as goal

abbrev pub invariant-loop-at : goal.invariant-loop-at
invariant-loop-at l = Scanning (the_table l.words) l.label l.initial.w l.w l.run l.at

abbrev pub decreases-loop-at : goal.decreases-loop-at
decreases-loop-at l = length l.label - l.at
