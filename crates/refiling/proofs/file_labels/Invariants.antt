-- `file_labels`: after each turn the labels so far have passed, and each answer was compared with its label.
use Rattle.table.specs.Layout.{the_table}
use Rattle.name.proofs.Splitting.{Left}
use Rattle.refiling.specs.Labels.{Lasting}
use Rattle.refiling.proofs.FilingLaws.{Going}
use Rattle.refiling.proofs.file_labels.Given as goal

abbrev pub invariant-loop-label : goal.invariant-loop-label
invariant-loop-label l = Going (the_table l.words) l.name l.at l.done l.place l.len l.same × Lasting l.words l.initial.w l.w l.unpaired l.memo × Left l.name l.at l.label-iterator
