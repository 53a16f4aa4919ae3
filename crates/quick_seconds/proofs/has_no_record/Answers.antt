-- `has_no_record` meets its contract.
use Rattle.table.specs.Layout.{the_table}
use Rattle.quick_seconds.proofs.SecondLaws.{no_record, none_is}
use Rattle.quick_seconds.proofs.has_no_record.Goals as goal

pub returns : goal.returns
returns c =
    λ e. no_record (the_table c.args.words.now) _ _ c.decomposition_items.result c.decomposition_items.ensures (none_is _ _ c.is_none.ensures e)
