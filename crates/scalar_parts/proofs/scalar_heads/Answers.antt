-- `scalar_parts::scalar_heads` meets its contract: what the test answers of a record is whether it is one of scalar values.
use Rattle.std.proofs.Common.{rules, tests}
use Rattle.table.specs.Table.{Headed}
use Rattle.sound_parts.specs.Parts.{scalar_record}
use Rattle.records.proofs.WalkLaws.{all_heads}
use Rattle.scalar_parts.proofs.scalar_heads.Goals as goal

pub returns : goal.returns
returns c = all_heads (λ (r : Headed). scalar_record r.head r.items) c.of.result _ c.all.new.self _ (c.of.ensures.all c.requires) c.all.ensures.ran (λ x b q k. search (rules, tests))
