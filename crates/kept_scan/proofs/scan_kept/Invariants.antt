-- `scan_kept` meets its contract: the loop keeps the steps that are laid down, and those that are left.
use Prim.Native.Nat.{◌-◌}
use lib.ListN.{length}
use Rattle.table.specs.Layout.{the_table}
use Rattle.kept_scan.proofs.Stepping.{Scanning}
use Rattle.kept_scan.proofs.scan_kept.Given as goal

abbrev pub invariant-loop-at : goal.invariant-loop-at
invariant-loop-at l = Scanning (the_table l.words) l.label l.initial.w l.w l.held l.at

abbrev pub decreases-loop-at : goal.decreases-loop-at
decreases-loop-at l = length l.label - l.at
