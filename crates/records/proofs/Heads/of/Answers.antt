use Rattle.std.proofs.Common.{rules}
use Rattle.table.specs.Layout.{most_items}
use Rattle.records.proofs.LeftLaws.{heads_are}
use Rattle.records.proofs.Heads.of.Goals as goal

pub returns : goal.returns
returns c = record { left = search rules; all = λ h. heads_are most_items c.args.part.now h }
