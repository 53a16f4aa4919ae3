use Rattle.std.proofs.Common.{rules}
use Rattle.records.proofs.LeftLaws.{lists_are}
use Rattle.records.proofs.Lists.of.Goals as goal

pub returns : goal.returns
returns c = record { left = search rules; all = λ h. lists_are c.args.part.now h }
