-- `rule_4::rule4::starts_with` meets its contract.
use Rattle.rule_4.proofs.StripLaws.{starts_first, starts_none}
use Rattle.rule_4.proofs.rule4.starts_with.Goals as goal

pub returns-then-items-gt0 : goal.returns-then-items-gt0
returns-then-items-gt0 c = starts_first c.args.c c.args.items.now c.if-items-gt0.true

pub returns : goal.returns
returns c = starts_none c.args.c c.args.items.now c.if-items-gt0.false
