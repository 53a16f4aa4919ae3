use Rattle.std.proofs.Common.{rules}
use Rattle.records.proofs.LeftLaws.{wholes_are}
use Rattle.records.proofs.Wholes.of.Goals as goal

pub returns : goal.returns
returns c = record { left = search rules; all = λ h. wholes_are c.args.part.now h }
