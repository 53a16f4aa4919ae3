-- `report_label`: after each turn the lines of the tokens so far are written.
use Prim.Native.Nat.{◌-◌}
use mathlib.Core.Path.{◌≡◌}
use lib.ListN.{length}
use Rattle.table.specs.Layout.{the_table}
use Rattle.unpaired.specs.Unpaired.{Unpaired}
use Rattle.report_walk.proofs.Reporting.{Reporting}
use Rattle.report_walk.proofs.report_label.Given as goal

abbrev pub invariant-loop-i : goal.invariant-loop-i
invariant-loop-i l = Reporting (the_table l.words) l.label l.start l.initial.out l.out l.initial.r l.r l.i × (Unpaired (the_table l.words) l.unpaired × (length l.w ≡ length l.initial.w))

abbrev pub decreases-loop-i : goal.decreases-loop-i
decreases-loop-i l = length l.label - l.i
