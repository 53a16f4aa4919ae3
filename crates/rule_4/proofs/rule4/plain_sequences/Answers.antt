-- `rule_4::rule4::plain_sequences` meets its contract: every sequence is asked.
use Rattle.std.proofs.Common.{rules, tests}
use Rattle.records.proofs.WalkLaws.{all_lists}
use Rattle.rule_4.specs.Strips.{plain_sequence}
use Rattle.rule_4.proofs.rule4.plain_sequences.Goals as goal

pub returns : goal.returns
returns c = all_lists plain_sequence c.of.result _ c.all.new.self _ c.of.ensures.left c.all.ensures.ran (λ x b q k. search (rules, tests))
