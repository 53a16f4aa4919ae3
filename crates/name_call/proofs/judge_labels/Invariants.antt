-- `judge_labels`: after each turn the labels so far have passed, and their answers stand in front.
use Rattle.table.specs.Layout.{the_table}
use Rattle.unpaired.specs.Unpaired.{Unpaired}
use Rattle.memo.specs.Memo.{Memo}
use Rattle.name.proofs.Splitting.{Left}
use Rattle.name_call.proofs.Passing.{Passed}
use Rattle.name_call.proofs.judge_labels.Given as goal

abbrev pub invariant-loop-label : goal.invariant-loop-label
invariant-loop-label l = Passed l.setting (the_table l.words) l.name l.initial.answer l.answer l.initial.w l.w l.at l.done l.place l.len × (Unpaired (the_table l.words) l.unpaired × Memo l.words l.memo) × Left l.name l.at l.label-iterator
