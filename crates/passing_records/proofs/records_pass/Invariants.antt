-- `rule8::records_pass` meets its contract: what is left to be asked says whether all pass.
use mathlib.Core.Path.{◌≡◌}
use Rattle.lists.specs.Lists.{all}
use Rattle.table.specs.Layout.{the_table}
use Rattle.unpaired.specs.Unpaired.{Unpaired}
use Rattle.records.specs.Left.{heads_left}
use Rattle.passing_records.specs.Records.{record_passes_in}
use Rattle.passing_records.proofs.records_pass.Given as goal

abbrev pub invariant-loop-head : goal.invariant-loop-head
invariant-loop-head l =
    (all (record_passes_in (the_table l.words)) (heads_left l.part) ≡ all (record_passes_in (the_table l.words)) (heads_left l.head-iterator.part.now))
    × Unpaired (the_table l.words) l.unpaired
