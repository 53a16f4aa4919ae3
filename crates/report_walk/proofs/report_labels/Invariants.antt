-- `report_labels`: after each turn the lines of the labels so far are written.
use mathlib.Core.Path.{◌≡◌}
use lib.ListN.{length}
use Rattle.table.specs.Layout.{the_table}
use Rattle.unpaired.specs.Unpaired.{Unpaired}
use Rattle.name.proofs.Splitting.{Left}
use Rattle.report_walk.proofs.Reporting.{Labelled}
use Rattle.report_walk.proofs.report_labels.Given as goal

abbrev pub invariant-loop-label : goal.invariant-loop-label
invariant-loop-label l = Labelled (the_table l.words) l.name l.initial.out l.out l.sink l.at × (Unpaired (the_table l.words) l.unpaired × (length l.w ≡ length l.initial.w)) × Left l.name l.at l.label-iterator
