-- `rule8::records_pass_of` meets its contract: the records that are left are those of the part.
use mathlib.Core.Path.{◌∙◌, ap}
use Rattle.lists.specs.Lists.{all}
use Rattle.table.specs.Layout.{most_items, the_table}
use Rattle.records.proofs.LeftLaws.{heads_are}
use Rattle.passing_records.specs.Records.{record_passes_in}
use Rattle.passing_records.proofs.records_pass_of.Goals as goal

pub returns : goal.returns
returns c =
    record {
      is = (rw c.of.ensures at c.records_pass.ensures.is) ∙ ap (all (record_passes_in (the_table c.args.words.now))) (heads_are most_items _ c.requires.holds);
      unpaired = c.records_pass.ensures.unpaired;
    }
